-- From a word to the file of a folder that it names.
use Rattle.std.proofs.Common.{◌≡◌, ◌∙◌, ℕ, zero, suc, List, [], ◌∷◌, Option, Some, None, Bool, true, false, refl, sym, ap}
use Rattle.std.specs.Prelude.{IfSome, IfNone, slice_get, if◌then◌else◌}
use Rattle.std.specs.Str.{bytes_eq}
use Rattle.std.proofs.lemmas.Option.{same_Some}
use Rattle.std.proofs.lemmas.Slice.Eq.{bytes_eq-Decides}
use Rattle.venue_types.specs.declared.folder_file.File.{File}
use Rattle.venue_types.specs.FolderFiles.{file_number, file_name, all_files}
use Rattle.venue_types.proofs.FileNumbers.{number_at}
use Rattle.venue_commands.specs.ReadCommands.{named_among}

-- the first of some files has the name, or one behind it
named_first : (f : File) (name : List ℕ) (same : Bool) (others : Option File) → bytes_eq (file_name f) name ≡ same → IfSome others (λ g. name ≡ file_name g)
    → IfSome (if same then Some f else others) (λ g. name ≡ file_name g)
named_first f name true others is behind = sym ((bytes_eq-Decides (file_name f) name).0 is)
named_first f name false others is behind = behind

-- a file that is found has the name
pub named_so : (fs : List File) (name : List ℕ) → IfSome (named_among fs name) (λ g. name ≡ file_name g)
named_so [] name = tt
named_so (f ∷ fs) name = named_first f name (bytes_eq (file_name f) name) (named_among fs name) refl (named_so fs name)

-- where none is found the first has another name
other_first : (f : File) (same : Bool) (others : Option File) → ◌≡◌ {A = Option File} (if same then Some f else others) None → same ≡ false
other_first f true others none = absurd cc
other_first f false others none = refl

-- and so have those behind it
other_behind : (f : File) (same : Bool) (others : Option File) → ◌≡◌ {A = Option File} (if same then Some f else others) None → others ≡ None
other_behind f true others none = absurd cc
other_behind f false others none = none

none_named : (fs : List File) (name : List ℕ) → named_among fs name ≡ None → (n : ℕ) (g : File) → slice_get fs n ≡ Some g → name ≡ file_name g → ⊥
none_named [] name none n g there is = cc
none_named (f ∷ fs) name none zero g there is =
    let other = other_first f (bytes_eq (file_name f) name) (named_among fs name) none in
    let equal : bytes_eq (file_name f) name ≡ true = (bytes_eq-Decides (file_name f) name).1 (ap file_name (same_Some f g there) ∙ sym is) in
    let clash : true ≡ false = sym equal ∙ other in absurd cc
none_named (f ∷ fs) name none (suc n) g there is =
    none_named fs name (other_behind f (bytes_eq (file_name f) name) (named_among fs name) none) n g there is

-- each file is among all
none_found : (name : List ℕ) (found : Option File) → named_among all_files name ≡ found → IfNone found ((g : File) → name ≡ file_name g → ⊥)
none_found name (Some f) is = tt
none_found name None is = λ g named. none_named all_files name is (file_number g) g (number_at g) named

pub named_none : (name : List ℕ) → IfNone (named_among all_files name) ((g : File) → name ≡ file_name g → ⊥)
named_none name = none_found name (named_among all_files name) refl
