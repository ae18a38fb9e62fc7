-- What no stop stops is written.
use Rattle.std.proofs.Common.{◌≡◌, ◌∙◌, ℕ, List, [], ◌∷◌, Some, None, refl, sym, ap, subst, inl, inr, codes, Bool, true, false}
use Rattle.std.specs.Str.{bytes_eq}
use Rattle.std.proofs.lemmas.Option.{same_Some}
use Rattle.venue_types.specs.declared.folder_file.File.{File}
use Rattle.venue_types.specs.declared.folder_file.File.TheVariants as file
use Rattle.venue_types.specs.FolderFiles.{file_name, all_files}
use Rattle.venue_session.specs.Venues.{SeenVenue as Venue}
use Rattle.venue_ports.specs.Causes.{Rose}
use Rattle.venue_ports.specs.Files.{StoredFile}
use Rattle.venue_commands.specs.declared.status.Status.{Status}
use Rattle.venue_commands.specs.declared.status.Status.TheVariants.{Done, Negative, Wrong, Fault, Memory}
use Rattle.venue_commands.specs.Checked.{HasVenue}
use Rattle.venue_commands.specs.Commands.{Canon, Session, IsAsked, words_of}
use Rattle.venue_commands.specs.Complete.{IsWrittenOut}
use Rattle.venue_commands.specs.Ends.{Printed, Ends}
use Rattle.venue_commands.specs.Output.{Output, other_words, answers_price, answers_verify, answers_check, answers_canon, answers_links, answers_route, stops_session, stops_serve, answers_gen}
use Rattle.venue_commands.specs.ReadCommands.{named_among}
use Rattle.venue_commands.specs.Runs.{Run, Wrote}
use Rattle.venue_commands.specs.Written.{CanonOutput, no_venue, written, written_text}
use Rattle.venue_commands.proofs.OneText.{NotBoth, OneVenue, not_both, venue_one}

-- a file is found by its name
found_by_name : (f : File) → named_among all_files (file_name f) ≡ Some f
found_by_name file.Manifest = refl
found_by_name file.Address = refl
found_by_name file.Amenity = refl
found_by_name file.Anchor = refl
found_by_name file.Building = refl
found_by_name file.Detail = refl
found_by_name file.Fixture = refl
found_by_name file.Footprint = refl
found_by_name file.Geofence = refl
found_by_name file.Kiosk = refl
found_by_name file.Level = refl
found_by_name file.Occupant = refl
found_by_name file.Opening = refl
found_by_name file.Relationship = refl
found_by_name file.Section = refl
found_by_name file.Unit = refl
found_by_name file.Venue = refl

one_name : (f g : File) → file_name f ≡ file_name g → f ≡ g
one_name f g e = same_Some f g (sym (found_by_name f) ∙ ap (named_among all_files) e ∙ found_by_name g)

-- the words tell base, folder and the file's name
same_base : (base base' folder folder' : List ℕ) (f g : File) → words_of (Canon base folder f) ≡ words_of (Canon base' folder' g) → base ≡ base'
same_base base base' folder folder' f g same = cc

same_folder : (base base' folder folder' : List ℕ) (f g : File) → words_of (Canon base folder f) ≡ words_of (Canon base' folder' g) → folder ≡ folder'
same_folder base base' folder folder' f g same = cc

same_name : (base base' folder folder' : List ℕ) (f g : File) → words_of (Canon base folder f) ≡ words_of (Canon base' folder' g) → file_name f ≡ file_name g
same_name base base' folder folder' f g same = cc

-- and they ask for no session
not_session : (base base' folder folder' : List ℕ) (f : File) → words_of (Canon base folder f) ≡ words_of (Session base' folder' None) → ⊥
not_session base base' folder folder' f same = cc

-- words that are told twice have one first word
abbrev first_word : List (List ℕ) → List ℕ
first_word [] = []
first_word (word ∷ words) = word

first_words : (words : List (List ℕ)) (first other : List ℕ) (rest others : List (List ℕ)) → words ≡ first ∷ rest → words ≡ other ∷ others → first ≡ other
first_words words first other rest others is is' = ap first_word (sym is ∙ is')

-- whether a word is the command's
abbrev is_canon : List ℕ → Bool
is_canon word = bytes_eq word (codes "canon")

never : false ≡ true → ⊥
never same = cc

-- the other commands have other names
no_price : codes "price" ≡ codes "canon" → ⊥
no_price same = never (ap is_canon same)

no_verify : codes "verify" ≡ codes "canon" → ⊥
no_verify same = never (ap is_canon same)

no_check : codes "check" ≡ codes "canon" → ⊥
no_check same = never (ap is_canon same)

no_links : codes "links" ≡ codes "canon" → ⊥
no_links same = never (ap is_canon same)

no_route : codes "route" ≡ codes "canon" → ⊥
no_route same = never (ap is_canon same)

no_session : codes "session" ≡ codes "canon" → ⊥
no_session same = never (ap is_canon same)

no_serve : codes "serve" ≡ codes "canon" → ⊥
no_serve same = never (ap is_canon same)

no_gen : codes "gen" ≡ codes "canon" → ⊥
no_gen same = never (ap is_canon same)

-- what is printed is this file, with status 0
abbrev IsFile : Venue → File → List ℕ → Status → Type 0
IsFile venue f text status = (text ≡ written_text venue f) × (status ≡ Done)

file_printed : NotBoth → OneVenue → (files : List StoredFile) (base folder : List ℕ) (f : File) (text : List ℕ) (status : Status) (venue : Venue) → HasVenue files base folder venue
    → CanonOutput files base folder f text status → IsFile venue f text status
file_printed both one files base folder f text status venue has (no_venue stops) = absurd (not_both both files base folder text status venue stops has)
file_printed both one files base folder f text status venue has (written venue' has') =
    (ap (λ (v : Venue). written_text v f) (venue_one one files base folder venue' venue has' has), refl)

file_of : NotBoth → OneVenue → (words : List (List ℕ)) (files : List StoredFile) (base folder : List ℕ) (f : File) (text : List ℕ) (status : Status) (venue : Venue) → IsAsked (Canon base folder f)
    → words ≡ words_of (Canon base folder f) → HasVenue files base folder venue → Output words files text status → IsFile venue f text status
file_of both one words files base folder f text status venue form is has (other_words none) = absurd (none (Canon base folder f) form is)
file_of both one words files base folder f text status venue form is has (answers_price base' form' is' output) =
    absurd (no_price (first_words words _ _ _ _ is' is))
file_of both one words files base folder f text status venue form is has (answers_verify base' form' is' output) =
    absurd (no_verify (first_words words _ _ _ _ is' is))
file_of both one words files base folder f text status venue form is has (answers_check base' folder' form' is' output) =
    absurd (no_check (first_words words _ _ _ _ is' is))
file_of both one words files base folder f text status venue form is has (answers_canon base' folder' g form' is' output) =
    let same = sym is' ∙ is in
    let here : CanonOutput files base folder f text status =
    subst (λ (b : List ℕ). CanonOutput files b folder f text status) (same_base base' base folder' folder g f same)
    (subst (λ (d : List ℕ). CanonOutput files base' d f text status) (same_folder base' base folder' folder g f same)
    (subst (λ (h : File). CanonOutput files base' folder' h text status) (one_name g f (same_name base' base folder' folder g f same)) output)) in
    file_printed both one files base folder f text status venue has here
file_of both one words files base folder f text status venue form is has (answers_links base' folder' profile form' is' output) =
    absurd (no_links (first_words words _ _ _ _ is' is))
file_of both one words files base folder f text status venue form is has (answers_route base' folder' profile from to a b form' is' from-is to-is output) =
    absurd (no_route (first_words words _ _ _ _ is' is))
file_of both one words files base folder f text status venue form is has (stops_session base' folder' form' is' output) =
    absurd (no_session (first_words words _ _ _ _ is' is))
file_of both one words files base folder f text status venue form is has (stops_serve base' folder' address workers connections form' is' output) =
    absurd (no_serve (first_words words _ _ _ _ is' is))
file_of both one words files base folder f text status venue form is has (answers_gen levels form' is' output) =
    absurd (no_gen (first_words words _ _ _ _ is' is))

printed_out : NotBoth → OneVenue → (words : List (List ℕ)) (files : List StoredFile) (base folder : List ℕ) (f : File) (venue : Venue) (run : Run) (status : Status) → IsAsked (Canon base folder f)
    → words ≡ words_of (Canon base folder f) → HasVenue files base folder venue → Printed words (Some files) run status → IsWrittenOut venue f run status
printed_out both one words files base folder f venue run status form is has printed =
    let told = file_of both one words files base folder f printed.text status venue form is has printed.output in
    inl (told.1, subst (Wrote run.written run.written_now) told.0 printed.wrote)

pub written_out : NotBoth → OneVenue → (words : List (List ℕ)) (base folder : List ℕ) (f : File) (files : List StoredFile) (venue : Venue) (run : Run) (status : Status)
    → IsAsked (Canon base folder f) → words ≡ words_of (Canon base folder f) → HasVenue files base folder venue
    → (Rose run.console run.console_now → ⊥) → (Rose run.folders run.folders_now → ⊥)
    → Ends words (Some files) run status → IsWrittenOut venue f run status
written_out both one words base folder f files venue run Done form is has console folders (inl printed) = printed_out both one words files base folder f venue run Done form is has printed
written_out both one words base folder f files venue run Done form is has console folders (inr served) =
    absurd (not_session base served.base folder served.folder f (sym is ∙ served.spelled))
written_out both one words base folder f files venue run Negative form is has console folders (inl printed) = printed_out both one words files base folder f venue run Negative form is has printed
written_out both one words base folder f files venue run Negative form is has console folders (inr served) =
    absurd (not_session base served.base folder served.folder f (sym is ∙ served.spelled))
written_out both one words base folder f files venue run Wrong form is has console folders printed = printed_out both one words files base folder f venue run Wrong form is has printed
written_out both one words base folder f files venue run Fault form is has console folders (inl cut) = absurd (console cut.cause)
written_out both one words base folder f files venue run Fault form is has console folders (inr (inl failed)) = absurd (folders failed.cause)
written_out both one words base folder f files venue run Fault form is has console folders (inr (inr served)) =
    absurd (not_session base served.base folder served.folder f (sym is ∙ served.spelled))
written_out both one words base folder f files venue run Memory form is has console folders ends = inr refl
