-- From file to file, what was asked for of a folder.
use Rattle.std.proofs.Common.{◌≡◌, ◌<◌, ◌+◌, ◌∙◌, ℕ, List, [], ◌∷◌, ◌++◌, Option, true, false, sym, ap, subst, take, drop, length, get_or, append_assoc, add-one, drop-cons, take-append-drop}
use Rattle.std.proofs.lemmas.List.{take_more, map_push}
use Rattle.venue_types.specs.declared.folder_file.File.{File}
use Rattle.venue_ports.specs.Asked.{AskedFile, HaveAsked, is_failure}
use Rattle.venue_ports.specs.declared.folders.ReadFault.{ReadFault}
use Rattle.venue_ports.specs.declared.folders.ReadFault.TheVariants.{Failed, OutOfMemory}
use Rattle.venue_ports.proofs.AskedLemmas.{asked_joined}
use Rattle.venue_folder.specs.AskedFolders.{read_of, reads_of, AskedUntil}

-- one file more
pub asked_more : (path : List ℕ) (files : List File) (i : ℕ) (f : File) (b m n : Option (List AskedFile)) → i < length files → HaveAsked (reads_of path (take i files)) b m
    → HaveAsked (read_of path false (get_or files i f) ∷ []) m n → HaveAsked (reads_of path (take (i + 1) files)) b n
asked_more path files i f b m n within before one =
    subst (λ (reads : List AskedFile). HaveAsked reads b n) (sym (ap (reads_of path) (take_more files i f within) ∙ map_push (read_of path false) (take i files) (get_or files i f)))
    (asked_joined (reads_of path (take i files)) (read_of path false (get_or files i f) ∷ []) b m n before one)

-- those up to it, and those behind it
parted : (files : List File) (i : ℕ) (f : File) → i < length files → files ≡ take i files ++ get_or files i f ∷ drop (i + 1) files
parted files i f within =
    sym (take-append-drop i files)
    ∙ ap (λ (t : List File). take i files ++ t) (drop-cons files i f within ∙ ap (λ (n : ℕ). get_or files i f ∷ drop n files) (sym (add-one i)))

-- one file more, where its read ended the loop
pub until_more : (path : List ℕ) (files : List File) (i : ℕ) (f : File) (b m n : Option (List AskedFile)) (fault : ReadFault) → i < length files
    → HaveAsked (reads_of path (take i files)) b m → HaveAsked (read_of path (is_failure fault) (get_or files i f) ∷ []) m n → AskedUntil path files b n fault
until_more path files i f b m n Failed within before one =
    (take i files, get_or files i f, drop (i + 1) files, parted files i f within, asked_joined (reads_of path (take i files)) (read_of path true (get_or files i f) ∷ []) b m n before one)
until_more path files i f b m n OutOfMemory within before one = (
  take i files ++ get_or files i f ∷ [],
  drop (i + 1) files,
  parted files i f within ∙ sym (append_assoc (take i files) (get_or files i f ∷ []) (drop (i + 1) files)),
  subst (λ (reads : List AskedFile). HaveAsked reads b n) (sym (map_push (read_of path false) (take i files) (get_or files i f)))
      (asked_joined (reads_of path (take i files)) (read_of path false (get_or files i f) ∷ []) b m n before one),
)

-- one file more, where memory ran out behind its read
pub without_memory : (path : List ℕ) (files : List File) (i : ℕ) (f : File) (b m n : Option (List AskedFile)) → i < length files → HaveAsked (reads_of path (take i files)) b m
    → HaveAsked (read_of path false (get_or files i f) ∷ []) m n → AskedUntil path files b n OutOfMemory
without_memory path files i f b m n within before one = until_more path files i f b m n OutOfMemory within before one
