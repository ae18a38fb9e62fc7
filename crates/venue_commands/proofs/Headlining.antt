-- From how a run ends to the headline.
use Rattle.std.proofs.Common.{◌≡◌, ◌⊎◌, ℕ, List, [], ◌∷◌, ◌++◌, Option, Some, None, refl, sym, subst, ap, ◌∙◌, inl, inr}
use Rattle.std.specs.Prelude.{IfSome}
use Rattle.std.specs.Io.KnownBytes.{Appends, Consumes}
use Rattle.venue_ports.specs.Files.{StoredFile}
use Rattle.venue_session.specs.Facts.{Facts}
use Rattle.version_board.specs.Making.{shelf_of}
use Rattle.venue_session.specs.Openings.{opening_history}
use Rattle.venue_session.specs.Ends.{Measured, Ended, refused_text, Run as Done_so_far}
use Rattle.venue_session.specs.Sessions.{IsSession}
use Rattle.venue_session.specs.declared.ends.End.{End}
use Rattle.venue_session.specs.Headline.{Headline, IsWhole}
use Rattle.venue_commands.specs.declared.status.Status.{Status}
use Rattle.venue_commands.specs.declared.status.Status.TheVariants.{Done, Negative, Wrong, Fault, Memory}
use Rattle.venue_commands.specs.Checked.{NoVenue, HasVenue}
use Rattle.venue_commands.specs.Commands.{Check, Session, IsAsked, words_of}
use Rattle.venue_commands.specs.Ends.{Printed, Ends}
use Rattle.venue_commands.specs.Headlines.{Answered, SaysHeadline}
use Rattle.venue_commands.specs.Output.{Output, other_words, answers_price, answers_verify, answers_check, answers_canon, answers_links, answers_route, stops_session, stops_serve, answers_gen}
use Rattle.venue_commands.specs.Runs.{Run, Wrote}
use Rattle.venue_commands.specs.Served.{end_status, console_of, Served}

-- the words of a session tell its base and its folder
same_base : (base base' folder folder' : List ℕ) → words_of (Session base folder None) ≡ words_of (Session base' folder' None) → base ≡ base'
same_base base base' folder folder' same = cc

same_folder : (base base' folder folder' : List ℕ) → words_of (Session base folder None) ≡ words_of (Session base' folder' None) → folder ≡ folder'
same_folder base base' folder folder' same = cc

-- and they ask for no check
not_check : (base base' folder folder' : List ℕ) → words_of (Check base folder) ≡ words_of (Session base' folder' None) → ⊥
not_check base base' folder folder' same = cc

-- what is printed where the words ask for a session says that there is no venue
pub stops_of : (words : List (List ℕ)) (files : List StoredFile) (base folder text : List ℕ) (status : Status) → IsAsked (Session base folder None) → words ≡ words_of (Session base folder None)
    → Output words files text status → NoVenue files base folder text status
stops_of words files base folder text status form is (other_words none) = absurd (none (Session base folder None) form is)
stops_of words files base folder text status form is (answers_price base' form' is' output) = absurd cc
stops_of words files base folder text status form is (answers_verify base' form' is' output) = absurd cc
stops_of words files base folder text status form is (answers_check base' folder' form' is' output) = absurd (not_check base' base folder' folder (sym is' ∙ is))
stops_of words files base folder text status form is (answers_canon base' folder' file form' is' output) = absurd cc
stops_of words files base folder text status form is (answers_links base' folder' profile form' is' output) = absurd cc
stops_of words files base folder text status form is (answers_route base' folder' profile from to a b form' is' from-is to-is output) = absurd cc
stops_of words files base folder text status form is (stops_session base' folder' form' is' output) =
    subst (λ (b : List ℕ). NoVenue files b folder text status) (same_base base' base folder' folder (sym is' ∙ is))
    (subst (λ (f : List ℕ). NoVenue files base' f text status) (same_folder base' base folder' folder (sym is' ∙ is)) output)
stops_of words files base folder text status form is (stops_serve base' folder' address workers connections form' is' output) = absurd cc
stops_of words files base folder text status form is (answers_gen levels form' is' output) = absurd cc

-- what is told of the files holds of the files that are told
pub told_of : (P : List StoredFile → Type 0) (told : Option (List StoredFile)) (files : List StoredFile) → told ≡ Some files → IfSome told P → P files
told_of P told files is p = let here : IfSome (Some files) P = subst (λ (o : Option (List StoredFile)). IfSome o P) is p in here

-- what is said, less the premises
abbrev pub Says : List StoredFile → List ℕ → List ℕ → List ℕ → List ℕ → Run → Status → Type 0
Says files base folder came before run status =
    (left : List ℕ) × (written : List ℕ) × (run.left_now ≡ Some left) × (run.written_now ≡ Some (before ++ written))
    × (NoVenue files base folder written status ⊎ Answered files base folder came left written)

wrote_behind : (old new : Option (List ℕ)) (before text : List ℕ) → old ≡ Some before → Wrote old new text → new ≡ Some (before ++ text)
wrote_behind old new before text is wrote = let here : Wrote (Some before) new text = subst (λ (o : Option (List ℕ)). Wrote o new text) is wrote in here

says_printed : (words : List (List ℕ)) (told : Option (List StoredFile)) (run : Run) (status : Status) (base folder : List ℕ) (files : List StoredFile) (came before : List ℕ)
    → IsAsked (Session base folder None) → words ≡ words_of (Session base folder None) → told ≡ Some files → run.left ≡ Some came → run.written ≡ Some before
    → Printed words told run status → Says files base folder came before run status
says_printed words told run status base folder files came before form spelled is left written printed =
    let output = told_of (λ fs. Output words fs printed.text status) told files is printed.output in (
      came,
      printed.text,
      printed.unread ∙ left,
      wrote_behind run.written run.written_now before printed.text written printed.wrote,
      inl (stops_of words files base folder printed.text status form spelled output),
    )

-- of known bytes it is known what is left
pub consumed : (old new : Option (List ℕ)) (taken came : List ℕ) → old ≡ Some came → Consumes old new taken → (left : List ℕ) × (new ≡ Some left)
consumed None new taken came is took = absurd cc
consumed (Some xs) None taken came is took = absurd took
consumed (Some xs) (Some ys) taken came is took = (ys, refl)

-- and what was added
pub appended : (old new : Option (List ℕ)) (text before : List ℕ) → old ≡ Some before → Appends old new text → new ≡ Some (before ++ text)
appended None new text before is wrote = absurd cc
appended (Some xs) None text before is wrote = absurd wrote
appended (Some xs) (Some ys) text before is wrote =
    let same : xs ≡ before = cc in
    ap (λ (t : List ℕ). Some t) wrote ∙ ap (λ (t : List ℕ). Some (t ++ text)) same

-- a session that ends by itself wrote some text
pub wrote_whole : (keys : List (List ℕ)) (end : End) (run : Done_so_far) (link : Measured) (new : Facts) → IsWhole end → Ended keys end run link new
    → (text : List ℕ) × Appends link.written_before link.written_after text
wrote_whole keys End.Done run link new whole ended = (run.out, ended.1)
wrote_whole keys (End.Cut count) run link new whole ended = (run.out, ended.1)
wrote_whole keys (End.Refused status) run link new whole ended = (run.out ++ refused_text ended.2, ended.5)
wrote_whole keys End.Worn run link new whole ended = (run.out, ended.1)
wrote_whole keys End.LinkFault run link new whole ended = absurd whole
wrote_whole keys End.OutOfMemory run link new whole ended = absurd whole

pub whole_end : (end : End) (status : Status) → status ≡ end_status end → (status ≡ Done) ⊎ (status ≡ Negative) → IsWhole end
whole_end End.Done status is ends = tt
whole_end (End.Cut count) status is ends = tt
whole_end (End.Refused number) status is ends = tt
whole_end End.Worn status is ends = tt
whole_end End.LinkFault status is (inl done) = absurd cc
whole_end End.LinkFault status is (inr negative) = absurd cc
whole_end End.OutOfMemory status is (inl done) = absurd cc
whole_end End.OutOfMemory status is (inr negative) = absurd cc

-- what the law of sessions says
abbrev pub Law : Type 0
Law = (keys : List (List ℕ)) (old new : Facts) (link : Measured) (end : End) (came left before written : List ℕ)
    → IsSession keys old new link end → IsWhole end
    → link.left_before ≡ Some came → link.left_after ≡ Some left → link.written_before ≡ Some before → link.written_after ≡ Some (before ++ written)
    → Headline keys old.files old.worker old.seen came left written

says_served : Law → (words : List (List ℕ)) (told : Option (List StoredFile)) (run : Run) (status : Status) (base folder : List ℕ) (files : List StoredFile) (came before : List ℕ)
    → IsAsked (Session base folder None) → words ≡ words_of (Session base folder None) → told ≡ Some files → run.left ≡ Some came → run.written ≡ Some before
    → (status ≡ Done) ⊎ (status ≡ Negative) → Served words told run status → Says files base folder came before run status
says_served law words told run status base folder files came before form spelled is left written ends s =
    let whole = whole_end s.end status s.ended ends in
    let session = s.session in
    let rest = consumed run.left run.left_now session.run.bytes came left session.took in
    let text = wrote_whole s.venue.settings.staff_keys s.end session.run (console_of run) s.closing whole session.ended in
    let wrote = appended run.written run.written_now text.0 before written text.1 in
    let asked = sym s.spelled ∙ spelled in
    let based = same_base s.base base s.folder folder asked in
    let named = same_folder s.base base s.folder folder asked in
    let shared = s.opened.shared in
    let says : Headline s.venue.settings.staff_keys s.opening.files s.opening.worker s.opening.seen came rest.0 text.0 =
    law s.venue.settings.staff_keys s.opening s.closing (console_of run) s.end came rest.0 before text.0 session whole left rest.1 written wrote in
    let opened : Headline s.venue.settings.staff_keys (shelf_of told s.base) 1 (opening_history shared) came rest.0 text.0 =
    subst (λ (f : Facts). Headline s.venue.settings.staff_keys f.files f.worker f.seen came rest.0 text.0) s.opened.facts_are says in
    let here : Headline s.venue.settings.staff_keys (shelf_of (Some files) base) 1 (opening_history shared) came rest.0 text.0 =
    subst (λ (o : Option (List StoredFile)). Headline s.venue.settings.staff_keys (shelf_of o base) 1 (opening_history shared) came rest.0 text.0) is
    (subst (λ (b : List ℕ). Headline s.venue.settings.staff_keys (shelf_of told b) 1 (opening_history shared) came rest.0 text.0) based opened) in
    let has : HasVenue files s.base s.folder s.venue = told_of (λ fs. HasVenue fs s.base s.folder s.venue) told files is s.made in
    let made : HasVenue files base folder s.venue =
    subst (λ (b : List ℕ). HasVenue files b folder s.venue) based (subst (λ (f : List ℕ). HasVenue files s.base f s.venue) named has) in
    (rest.0, text.0, rest.1, wrote, inr (record { venue = s.venue; made = made; shared = shared; publishes = s.opened.publishes; headline = here }))

pub says_headline : Law → (words : List (List ℕ)) (told : Option (List StoredFile)) (run : Run) (status : Status) → Ends words told run status → SaysHeadline words told run status
says_headline law words told run Done (inl printed) base folder files came before form spelled is left written ends =
    says_printed words told run Done base folder files came before form spelled is left written printed
says_headline law words told run Done (inr served) base folder files came before form spelled is left written ends =
    says_served law words told run Done base folder files came before form spelled is left written ends served
says_headline law words told run Negative (inl printed) base folder files came before form spelled is left written ends =
    says_printed words told run Negative base folder files came before form spelled is left written printed
says_headline law words told run Negative (inr served) base folder files came before form spelled is left written ends =
    says_served law words told run Negative base folder files came before form spelled is left written ends served
says_headline law words told run Wrong run_ends base folder files came before form spelled is left written (inl done) = absurd cc
says_headline law words told run Wrong run_ends base folder files came before form spelled is left written (inr negative) = absurd cc
says_headline law words told run Fault run_ends base folder files came before form spelled is left written (inl done) = absurd cc
says_headline law words told run Fault run_ends base folder files came before form spelled is left written (inr negative) = absurd cc
says_headline law words told run Memory run_ends base folder files came before form spelled is left written (inl done) = absurd cc
says_headline law words told run Memory run_ends base folder files came before form spelled is left written (inr negative) = absurd cc
