-- From what a read finds to a file's place in a folder.
use Rattle.std.proofs.Common.{◌≡◌, ◌∙◌, ◌<◌, ◌≤◌, ◌+◌, ℕ, List, [], ◌∷◌, ◌++◌, get_or, sym, Option, Some, None, Ok, refl, ap, subst, map, take, length}
use Rattle.std.proofs.lemmas.List.{take_all, take_more, map_push}
use Rattle.std.specs.Prelude.{IfSome, Vec}
use Rattle.std.specs.Option.{option_map}
use Rattle.std.specs.declared.alloc.Global.{Global}
use Rattle.std.proofs.lemmas.Option.{same_Some}
use Rattle.venue_types.specs.declared.files.Slot.{Slot}
use Rattle.venue_types.specs.declared.files.Slot.TheVariants as slot
use Rattle.venue_types.specs.declared.files.Files.{Files}
use Rattle.venue_ports.specs.Files.{StoredFile, file_at, ReadsFile}
use Rattle.venue_types.specs.declared.folder_file.File.{File}
use Rattle.venue_types.specs.FolderFiles.{file_name, all_files}
use Rattle.venue_folder.specs.Shelves.{file_limit, slot_of, slot_at, folder_files}

absent_slot : (found : Option (List ℕ)) → ◌≡◌ {A = Option (List ℕ)} None (option_map (take 33554433) found) → slot.Absent ≡ slot_of found
absent_slot None e = refl
absent_slot (Some bytes) e = absurd cc

held_slot : (bytes : List ℕ) (found : Option (List ℕ)) → Some bytes ≡ option_map (take 33554433) found → slot.Held bytes ≡ slot_of found
held_slot bytes None e = absurd cc
held_slot bytes (Some whole) e = ap slot.Held (same_Some bytes (take 33554433 whole) e)

-- what a read under a file's name found, where the files are told
found_at : (fs : List StoredFile) (path name : List ℕ) (f : File) (found : Option (Vec ℕ Global)) → name ≡ file_name f → ReadsFile (Some fs) path name file_limit (Ok found)
    → ReadsFile (Some fs) path (file_name f) file_limit (Ok found)
found_at fs path name f found named told = subst (λ (n : List ℕ). ReadsFile (Some fs) path n file_limit (Ok found)) named told

pub slot_absent : (files : Option (List StoredFile)) (path name : List ℕ) (f : File) (found : Option (Vec ℕ Global)) → name ≡ file_name f
    → ReadsFile files path name file_limit (Ok found) → found ≡ None → IfSome files (λ fs. slot.Absent ≡ slot_at fs path f)
unfolding slot_at
slot_absent None path name f found named told is = tt
slot_absent (Some fs) path name f found named told is =
    absent_slot (file_at fs path (file_name f)) (subst (λ (o : Option (Vec ℕ Global)). ReadsFile (Some fs) path (file_name f) file_limit (Ok o)) is (found_at fs path name f found named told))

pub slot_held : (files : Option (List StoredFile)) (path name : List ℕ) (f : File) (found : Option (Vec ℕ Global)) (v : Vec ℕ Global) (bytes : List ℕ) → name ≡ file_name f
    → ReadsFile files path name file_limit (Ok found) → found ≡ Some v → bytes ≡ v.items → IfSome files (λ fs. slot.Held bytes ≡ slot_at fs path f)
unfolding slot_at
slot_held None path name f found v bytes named told is same = tt
slot_held (Some fs) path name f found v bytes named told is same =
    ap slot.Held same
    ∙ held_slot v.items (file_at fs path (file_name f)) (subst (λ (o : Option (Vec ℕ Global)). ReadsFile (Some fs) path (file_name f) file_limit (Ok o)) is (found_at fs path name f found named told))

pub slots_more : (files : Option (List StoredFile)) (path : List ℕ) (names : List File) (n : ℕ) (f : File) (slots items : List Slot) (slot : Slot) → n < length names
    → IfSome files (λ fs. slots ≡ map (slot_at fs path) (take n names)) → IfSome files (λ fs. slot ≡ slot_at fs path (get_or names n f)) → items ≡ slots ++ slot ∷ []
    → IfSome files (λ fs. items ≡ map (slot_at fs path) (take (n + 1) names))
slots_more None path names n f slots items slot within told one pushed = tt
slots_more (Some fs) path names n f slots items slot within told one pushed =
    pushed ∙ ap (λ (l : List Slot). l ++ slot ∷ []) told ∙ ap (λ (x : Slot). map (slot_at fs path) (take n names) ++ x ∷ []) one
    ∙ sym (map_push (slot_at fs path) (take n names) (get_or names n f)) ∙ ap (λ (ns : List File). map (slot_at fs path) ns) (sym (take_more names n f within))

pub slots_whole : (files : Option (List StoredFile)) (path : List ℕ) (names : List File) (slots : List Slot) (n : ℕ) → length names ≤ n
    → IfSome files (λ fs. slots ≡ map (slot_at fs path) (take n names)) → IfSome files (λ fs. slots ≡ map (slot_at fs path) names)
slots_whole None path names slots n all told = tt
slots_whole (Some fs) path names slots n all told = told ∙ ap (λ (ns : List File). map (slot_at fs path) ns) (take_all n names all)

abbrev as_files : List Slot → Files
as_files slots = record { slots = slots }

pub files_held : (files : Option (List StoredFile)) (path : List ℕ) (names : List File) (items slots : List Slot) → slots ≡ items → names ≡ all_files
    → IfSome files (λ fs. items ≡ map (slot_at fs path) names) → IfSome files (λ fs. as_files slots ≡ folder_files fs path)
files_held None path names items slots same listed told = tt
files_held (Some fs) path names items slots same listed told = ap as_files (same ∙ told ∙ ap (λ (ns : List File). map (slot_at fs path) ns) listed)
