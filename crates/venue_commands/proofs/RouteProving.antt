-- From what `links` and `route` print to what `verify` says of it.
use Rattle.std.proofs.Common.{◌≡◌, ◌≢◌, ℕ, List, length, Option, Some, None, refl, sym, subst, ◌∙◌, codes, arith}
use Rattle.std.proofs.lemmas.List.{length-map}
use Rattle.std.proofs.lemmas.Option.{same_Some}
use Rattle.std.specs.Prelude.{◌≤◌, ◌<◌}
use Rattle.venue_types.specs.declared.feature_id.FeatureId.{FeatureId}
use Rattle.venue_types.specs.declared.link.Node.{Node}
use Rattle.venue_types.specs.declared.settings.Profile.{Profile}
use Rattle.route_answers.specs.Nodes.{nodes}
use Rattle.venue_ports.specs.Files.{StoredFile, file_at}
use Rattle.line_forms.specs.Lines.{line}
use Rattle.route_certificate.specs.declared.table.Table.{Table}
use Rattle.route_certificate.specs.declared.table.TableLink.{TableLink}
use Rattle.route_certificate.specs.declared.answer.AnswerIn.{AnswerIn}
use Rattle.route_certificate.specs.declared.answer.Claim.{Claim}
use Rattle.route_certificate.specs.declared.answer.Claim.TheVariants.{Route, Nothing}
use Rattle.route_certificate.specs.declared.answer.Verdict.{Verdict}
use Rattle.route_certificate.specs.declared.answer.Verdict.TheVariants.{Proved}
use Rattle.route_certificate.specs.Forms.{IsTable, FitsTable, table_text}
use Rattle.route_certificate.specs.Answers.{IsAnswerText, FitsAnswer, answer_text}
use Rattle.route_certificate.specs.Verdicts.{IsProvedClaim, IsProved, IsClaimJudged, IsJudged, IsTrueAnswer}
use Rattle.route_answers.specs.Tables.{table_of}
use Rattle.route_answers.specs.RouteAnswers.{IsRouteAnswer}
use Rattle.venue_session.specs.Venues.{SeenVenue as Venue}
use Rattle.venue_commands.specs.declared.load.Cause.{Cause}
use Rattle.venue_commands.specs.declared.load.Cause.TheVariants.{Missing, Large, Malformed}
use Rattle.venue_commands.specs.declared.status.Status.{Status}
use Rattle.venue_commands.specs.declared.status.Status.TheVariants.{Done, Wrong}
use Rattle.venue_commands.specs.Files.{Reads, StopsBy, Stops, links_limit, links_name, answer_limit, answer_name}
use Rattle.venue_commands.specs.Verified.{AnswerForm, verdict_text, verdict_status, VerifyOutput, no_links, no_answer, verified}
use Rattle.venue_commands.specs.Checked.{NoVenue, HasVenue, no_settings, rejected}
use Rattle.venue_commands.specs.Linked.{profile_named, LinksOutput, no_venue as links_no_venue, no_profile as links_no_profile, linked}
use Rattle.venue_commands.specs.Routed.{HasRouter, RouteOutput, no_venue, no_profile, no_start, no_end, routed}
use Rattle.venue_commands.specs.Kept.{HaveAnswered, AreKept, IsProvedBy}
use Rattle.venue_commands.proofs.OneText.{NotBoth, OneVenue, read_one, not_both, venue_one}

-- ---- what the two commands print

-- the venue and the profile of a table that was printed
record HasLinks (fs : List StoredFile) (base folder name text : List ℕ) : Type 0 where
  venue : Venue
  profile : Profile
  has : HasVenue fs base folder venue
  named : profile_named venue.settings name ≡ Some profile
  fits : FitsTable (table_of venue.features venue.settings profile)
  printed : text ≡ table_text (table_of venue.features venue.settings profile)

stopped_not_done : (fs : List StoredFile) (base folder text : List ℕ) (status : Status) → NoVenue fs base folder text status → status ≡ Done → ⊥
stopped_not_done fs base folder _ _ (no_settings none) is = absurd cc
stopped_not_done fs base folder _ _ (rejected settings report reads is-rejected) is = absurd cc

links_in : (fs : List StoredFile) (base folder name text : List ℕ) (status : Status) → LinksOutput fs base folder name text status → status ≡ Done → HasLinks fs base folder name text
links_in fs base folder name text status (links_no_venue none) is = absurd (stopped_not_done fs base folder text status none is)
links_in fs base folder name _ _ (links_no_profile venue has none) is = absurd cc
links_in fs base folder name _ _ (linked venue profile has named fits) is =
    record { venue = venue; profile = profile; has = has; named = named; fits = fits; printed = refl }

-- the venue, the profile and the nodes of an answer that was printed
record HasRoute (fs : List StoredFile) (base folder name text : List ℕ) : Type 0 where
  venue : Venue
  profile : Profile
  a : ℕ
  b : ℕ
  answer : AnswerIn
  router : HasRouter fs base folder name venue profile
  right : IsRouteAnswer venue.features venue.settings profile a b answer
  printed : text ≡ answer_text answer

route_in : NotBoth → (fs : List StoredFile) (base folder name : List ℕ) (from to : FeatureId) (venue : Venue) → HasVenue fs base folder venue → (text : List ℕ) (status : Status)
    → RouteOutput fs base folder name from to text status → status ≢ Wrong → HasRoute fs base folder name text
route_in law fs base folder name from to here has text status (no_venue none) some = absurd (not_both law fs base folder text status here none has)
route_in law fs base folder name from to here has _ _ (no_profile venue is none) some = absurd (some refl)
route_in law fs base folder name from to here has _ _ (no_start venue profile router none) some = absurd (some refl)
route_in law fs base folder name from to here has _ _ (no_end venue profile a router starts none) some = absurd (some refl)
route_in law fs base folder name from to here has _ _ (routed venue profile a b answer router starts ends right) some =
    record { venue = venue; profile = profile; a = a; b = b; answer = answer; router = router; right = right; printed = refl }

-- ---- the answer is proved by the table

-- a right answer, where the venue and the profile are these
right_here : (name : List ℕ) (one other : Venue) (p q : Profile) (a b : ℕ) (answer : AnswerIn) → other ≡ one → profile_named one.settings name ≡ Some p → profile_named other.settings name ≡ Some q
    → IsRouteAnswer other.features other.settings q a b answer → IsRouteAnswer one.features one.settings p a b answer
right_here name one other p q a b answer same named also right =
    let named_here = subst (λ (v : Venue). profile_named v.settings name ≡ Some q) same also in
    let here = subst (λ (v : Venue). IsRouteAnswer v.features v.settings q a b answer) same right in
    subst (λ (r : Profile). IsRouteAnswer one.features one.settings r a b answer) (same_Some q p (sym named_here ∙ named)) here

abbrev pub Truth : Type 0
Truth = (table : Table) (answer : AnswerIn) → IsProved table answer → IsTrueAnswer table answer

proved_of : Truth → (venue : Venue) (profile : Profile) (a b : ℕ) (answer : AnswerIn) (table text : List ℕ) → FitsTable (table_of venue.features venue.settings profile)
    → table ≡ table_text (table_of venue.features venue.settings profile) → text ≡ answer_text answer → IsRouteAnswer venue.features venue.settings profile a b answer → IsProvedBy table text
proved_of law venue profile a b answer table text fits is-table is-answer right =
    let links = table_of venue.features venue.settings profile in
    let count : length (nodes venue.features venue.settings) ≡ length links.nodes = sym (length-map (nodes venue.features venue.settings) (λ (node : Node). node.id)) in
    record {
      links = links;
      given = answer;
      is_table = record { spelled = is-table; fits = fits };
      is_answer = record { spelled = is-answer; fits = subst (λ (n : ℕ). FitsAnswer n answer) count right.fits };
      proved = right.proved;
      truth = law links answer right.proved;
    }

pub is_proved_by : NotBoth → OneVenue → Truth → (fs : List StoredFile) (base folder name : List ℕ) (from to : FeatureId) (table answer : List ℕ)
    → HaveAnswered fs base folder name from to table answer → IsProvedBy table answer
is_proved_by not_both one truth fs base folder name from to table answer h =
    let links = links_in fs base folder name table Done h.links refl in
    let route = route_in not_both fs base folder name from to links.venue links.has answer h.status h.route h.right in
    let same = venue_one one fs base folder route.venue links.venue route.router.venue_is links.has in
    proved_of truth links.venue links.profile route.a route.b route.answer table answer links.fits links.printed route.printed
    (right_here name links.venue route.venue links.profile route.profile route.a route.b route.answer same links.named route.router.profile_is route.right)

-- ---- what `verify` prints

-- a file that is there, within its limit and of the form doesn't stop the command
not_by : {X : Type 0} (Form : List ℕ → X → Type 0) (limit : ℕ) (found : Option (List ℕ)) (bytes : List ℕ) (x : X) (cause : Cause) → found ≡ Some bytes → length bytes ≤ limit → Form bytes x
    → StopsBy Form limit found cause → ⊥
not_by Form limit found bytes x Missing there within form why = let e : None ≡ Some bytes = sym why ∙ there in absurd cc
not_by Form limit found bytes x Large there within form why =
    let less = subst (λ (b : List ℕ). limit < length b) (same_Some why.0 bytes (sym why.1 ∙ there)) why.2 in
    absurd (omega arith)
not_by {X} Form limit found bytes x (Malformed n) there within form why =
    why.3.other (x, subst (λ (b : List ℕ). Form b x) (same_Some bytes why.0 (sym there ∙ why.1)) form)

not_stopped : {X : Type 0} (Form : List ℕ → X → Type 0) (limit : ℕ) (name : List ℕ) (found : Option (List ℕ)) (bytes text : List ℕ) (x : X) → found ≡ Some bytes → length bytes ≤ limit
    → Form bytes x → Stops Form limit name found text → ⊥
not_stopped Form limit name found bytes text x there within form stops = not_by Form limit found bytes x stops.cause there within form stops.why

-- a file that is there is read as what its text is of
read_as : {X : Type 0} (Form : List ℕ → X → Type 0) (limit : ℕ) (found : Option (List ℕ)) (bytes : List ℕ) (x y : X) → ((b : List ℕ) → Form b x → Form b y → x ≡ y) → found ≡ Some bytes
    → length bytes ≤ limit → Form bytes y → Reads Form limit found x → x ≡ y
read_as Form limit found bytes x y one there within form reads =
    read_one Form limit found x y one reads (record { bytes = bytes; there = there; within = within; form = form })

judged_proved : (links : List TableLink) (from to : ℕ) (claim : Claim) → IsProvedClaim links from to claim → IsClaimJudged links from to claim Proved
judged_proved links from to (Route cost steps at) proved = proved
judged_proved links from to (Nothing reached) proved = proved

abbrev pub OneTable : Type 0
OneTable = (text : List ℕ) (a b : Table) → IsTable text a → IsTable text b → a ≡ b

abbrev pub OneAnswer : Type 0
OneAnswer = (text : List ℕ) (table : Table) (a b : AnswerIn) → IsAnswerText text table a → IsAnswerText text table b → a ≡ b

abbrev pub OneVerdict : Type 0
OneVerdict = (table : Table) (answer : AnswerIn) (a b : Verdict) → IsJudged table answer a → IsJudged table answer b → a ≡ b

-- the verdict on what the files hold
verdict_here : OneTable → OneAnswer → OneVerdict → (kept : List StoredFile) (desk table text : List ℕ) (by : IsProvedBy table text) → AreKept kept desk table text
    → (links : Table) (answer : AnswerIn) (verdict : Verdict) → Reads IsTable links_limit (file_at kept desk links_name) links
    → Reads (AnswerForm links) answer_limit (file_at kept desk answer_name) answer → IsJudged links answer verdict → verdict ≡ Proved
verdict_here one_table one_answer one_verdict kept desk table text by there links answer verdict reads reads_answer is =
    let same = read_as IsTable links_limit (file_at kept desk links_name) table links by.links (λ b. one_table b links by.links) there.table_there there.table_within by.is_table reads in
    let reads_here = subst (λ (t : Table). Reads (AnswerForm t) answer_limit (file_at kept desk answer_name) answer) same reads_answer in
    let also = read_as (AnswerForm by.links) answer_limit (file_at kept desk answer_name) text answer by.given (λ b. one_answer b by.links answer by.given)
    there.answer_there there.answer_within by.is_answer reads_here in
    let judged = subst (λ (t : Table). IsJudged t answer verdict) same is in
    let judged_here = subst (λ (x : AnswerIn). IsJudged by.links x verdict) also judged in
    one_verdict by.links by.given verdict Proved judged_here (judged_proved by.links.links by.given.from by.given.to by.given.claim by.proved)

pub verifies : OneTable → OneAnswer → OneVerdict → (kept : List StoredFile) (desk table answer : List ℕ) → IsProvedBy table answer → AreKept kept desk table answer
    → (text : List ℕ) (judged : Status) → VerifyOutput kept desk text judged → (text ≡ line (codes "proved")) × (judged ≡ Done)
verifies one_table one_answer one_verdict kept desk table answer by there text _ (no_links stops) =
    absurd (not_stopped IsTable links_limit links_name (file_at kept desk links_name) table text by.links there.table_there there.table_within by.is_table stops)
verifies one_table one_answer one_verdict kept desk table answer by there text _ (no_answer links reads stops) =
    let same = read_as IsTable links_limit (file_at kept desk links_name) table links by.links (λ b. one_table b links by.links) there.table_there there.table_within by.is_table reads in
    let here = subst (λ (t : Table). Stops (AnswerForm t) answer_limit answer_name (file_at kept desk answer_name) text) same stops in
    absurd (not_stopped (AnswerForm by.links) answer_limit answer_name (file_at kept desk answer_name) answer text by.given there.answer_there there.answer_within by.is_answer here)
verifies one_table one_answer one_verdict kept desk table answer by there _ _ (verified links given verdict reads reads_answer is) =
    let proved = verdict_here one_table one_answer one_verdict kept desk table answer by there links given verdict reads reads_answer is in
    subst (λ (v : Verdict). (verdict_text v ≡ line (codes "proved")) × (verdict_status v ≡ Done)) (sym proved) (refl, refl)
