-- From what the parts answer to what the program prints.
use Rattle.std.proofs.Common.{◌≡◌, ℕ, List, Option, Some, None, Result, Ok, Err, sym, subst}
use Rattle.std.specs.Prelude.{IfSome, Vec}
use Rattle.std.specs.declared.alloc.Global.{Global}
use Rattle.venue_ports.specs.Files.{StoredFile, file_at}
use Rattle.route_certificate.specs.declared.table.Table.{Table}
use Rattle.route_certificate.specs.declared.table.WalkIn.{WalkIn}
use Rattle.route_certificate.specs.declared.table.Priced.{Priced}
use Rattle.line_forms.specs.Faults.{IsFaultLine}
use Rattle.route_certificate.specs.Forms.{IsTable}
use Rattle.route_certificate.specs.Prices.{IsPriced}
use Rattle.venue_commands.specs.declared.load.Loaded.{Loaded}
use Rattle.venue_commands.specs.declared.load.Loaded.TheVariants as loaded
use Rattle.venue_commands.specs.declared.load.Cause.{Cause}
use Rattle.venue_commands.specs.declared.load.Cause.TheVariants.{Malformed}
use Rattle.venue_commands.specs.declared.status.Status.{Status}
use Rattle.venue_commands.specs.declared.status.Status.TheVariants.{Wrong}
use Rattle.venue_commands.specs.Steps.{IsLoaded, IsJudged}
use Rattle.venue_commands.specs.Files.{Reads, StopsBy, Stops, stop_text, links_limit, links_name, walk_limit, walk_name}
use Rattle.venue_commands.specs.Output.{WalkForm, priced_text, priced_status, PriceOutput, no_table, no_walk, priced}

-- a file that was read whole and has a faulty line stops the command
pub malformed_stops : {X : Type 0} (Form : List ℕ → X → Type 0) (limit : ℕ) (files : Option (List StoredFile)) (base name : List ℕ) (file : Loaded) (v : Vec ℕ Global) (n : ℕ)
    → IfSome files (λ fs. IsLoaded limit (file_at fs base name) file) → file ≡ loaded.Whole v → IsFaultLine (λ text. (x : X) × Form text x) v.items n
    → IfSome files (λ fs. StopsBy Form limit (file_at fs base name) (Malformed n))
malformed_stops Form limit None base name file v n told is fault = tt
malformed_stops Form limit (Some fs) base name file v n told is fault =
    let whole : IsLoaded limit (file_at fs base name) (loaded.Whole v) = subst (IsLoaded limit (file_at fs base name)) is told in
    (v.items, whole.0, whole.1, fault)

pub stops : {X : Type 0} (Form : List ℕ → X → Type 0) (limit : ℕ) (name : List ℕ) (found : Option (List ℕ)) (judged : Result X Cause) (cause : Cause) (text : List ℕ)
    → IsJudged Form limit found judged → judged ≡ Err cause → text ≡ stop_text name cause → Stops Form limit name found text
stops Form limit name found judged cause text told is printed = record { cause = cause; why = subst (IsJudged Form limit found) is told; printed = printed }

pub reads : {X : Type 0} (Form : List ℕ → X → Type 0) (limit : ℕ) (found : Option (List ℕ)) (judged : Result X Cause) (x : X) → IsJudged Form limit found judged → judged ≡ Ok x → Reads Form limit found x
reads Form limit found judged x told is = subst (IsJudged Form limit found) is told

pub stops_at_links : (files : Option (List StoredFile)) (base text : List ℕ) (status : Status) (judged : Result Table Cause) (cause : Cause)
    → IfSome files (λ fs. IsJudged IsTable links_limit (file_at fs base links_name) judged) → judged ≡ Err cause → text ≡ stop_text links_name cause → status ≡ Wrong
    → IfSome files (λ fs. PriceOutput fs base text status)
stops_at_links None base text status judged cause told is printed wrong = tt
stops_at_links (Some fs) base text status judged cause told is printed wrong =
    subst (PriceOutput fs base text) (sym wrong) (no_table (stops IsTable links_limit links_name (file_at fs base links_name) judged cause text told is printed))

pub stops_at_walk : (files files' : Option (List StoredFile)) (base text : List ℕ) (status : Status) (judged : Result Table Cause) (table : Table) (judged' : Result WalkIn Cause) (cause : Cause)
    → files' ≡ files
    → IfSome files (λ fs. IsJudged IsTable links_limit (file_at fs base links_name) judged) → judged ≡ Ok table
    → IfSome files' (λ fs. IsJudged (WalkForm table) walk_limit (file_at fs base walk_name) judged') → judged' ≡ Err cause → text ≡ stop_text walk_name cause → status ≡ Wrong
    → IfSome files (λ fs. PriceOutput fs base text status)
stops_at_walk None files' base text status judged table judged' cause same told is told' is' printed wrong = tt
stops_at_walk (Some fs) files' base text status judged table judged' cause same told is told' is' printed wrong =
    let walk : IsJudged (WalkForm table) walk_limit (file_at fs base walk_name) judged' = subst (λ (o : Option (List StoredFile)). IfSome o (λ gs. IsJudged (WalkForm table) walk_limit (file_at gs base walk_name) judged')) same told' in
    subst (PriceOutput fs base text) (sym wrong)
    (no_walk table (reads IsTable links_limit (file_at fs base links_name) judged table told is) (stops (WalkForm table) walk_limit walk_name (file_at fs base walk_name) judged' cause text walk is' printed))

pub is_priced : (files files' : Option (List StoredFile)) (base text : List ℕ) (status : Status) (judged : Result Table Cause) (table : Table) (judged' : Result WalkIn Cause) (walk : WalkIn) (outcome : Priced)
    → files' ≡ files
    → IfSome files (λ fs. IsJudged IsTable links_limit (file_at fs base links_name) judged) → judged ≡ Ok table
    → IfSome files' (λ fs. IsJudged (WalkForm table) walk_limit (file_at fs base walk_name) judged') → judged' ≡ Ok walk → IsPriced table walk outcome
    → text ≡ priced_text outcome → status ≡ priced_status outcome → IfSome files (λ fs. PriceOutput fs base text status)
is_priced None files' base text status judged table judged' walk outcome same told is told' is' price printed ends = tt
is_priced (Some fs) files' base text status judged table judged' walk outcome same told is told' is' price printed ends =
    let walk-told : IsJudged (WalkForm table) walk_limit (file_at fs base walk_name) judged' = subst (λ (o : Option (List StoredFile)). IfSome o (λ gs. IsJudged (WalkForm table) walk_limit (file_at gs base walk_name) judged')) same told' in
    let whole : PriceOutput fs base (priced_text outcome) (priced_status outcome) = priced table walk outcome (reads IsTable links_limit (file_at fs base links_name) judged table told is)
    (reads (WalkForm table) walk_limit (file_at fs base walk_name) judged' walk walk-told is') price in
    subst (PriceOutput fs base text) (sym ends) (subst (λ (t : List ℕ). PriceOutput fs base t (priced_status outcome)) (sym printed) whole)
