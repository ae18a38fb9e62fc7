-- From the words in front of a journal to what the words ask for.
use Rattle.std.proofs.Common.{◌≡◌, ℕ, ◌+◌, List, [], ◌∷◌, ◌++◌, Option, Some, None, length, length-append, refl, sym, ap, ◌∙◌, codes, arith, false}
use Rattle.std.specs.Prelude.{IfNone}
use Rattle.std.specs.Fmt.{decimal}
use Rattle.venue_commands.specs.Commands.{Asked, Price, Verify, Check, Canon, Links, Route, Session, Serve, Gen, IsBase, IsFolder, IsAsked, Asks, AskNoJournal, words_of}

-- lists of which one more each are the same are the same
fronts : {X : Type 0} (xs ys : List X) (a b : X) → xs ++ a ∷ [] ≡ ys ++ b ∷ [] → xs ≡ ys
fronts [] [] a b same = refl
fronts {X} [] (y ∷ ys) a b same =
    let len : 1 ≡ length (y ∷ (ys ++ b ∷ [])) = ap (λ (l : List X). length l) same in absurd (omega (arith, len, length-append ys (b ∷ [])))
fronts {X} (x ∷ xs) [] a b same =
    let len : length (x ∷ (xs ++ a ∷ [])) ≡ 1 = ap (λ (l : List X). length l) same in absurd (omega (arith, len, length-append xs (a ∷ [])))
fronts {X} (x ∷ xs) (y ∷ ys) a b same =
    let head : x ≡ y = cc in
    let rest : xs ++ a ∷ [] ≡ ys ++ b ∷ [] = cc in
    ap (λ (z : X). z ∷ xs) head ∙ ap (λ (l : List X). y ∷ l) (fronts xs ys a b rest)

-- the last word names no journal
pub no_journal_at : (words : List (List ℕ)) → ((front : List (List ℕ)) (journal : List ℕ) → IsFolder journal → words ≡ front ++ journal ∷ [] → ⊥) → AskNoJournal words
no_journal_at words none (Price base) asks = refl
no_journal_at words none (Verify base) asks = refl
no_journal_at words none (Check base folder) asks = refl
no_journal_at words none (Canon base folder file) asks = refl
no_journal_at words none (Links base folder profile) asks = refl
no_journal_at words none (Route base folder profile from to) asks = refl
no_journal_at words none (Session base folder None) asks = refl
no_journal_at words none (Session base folder (Some journal)) asks = absurd (none (codes "session" ∷ base ∷ folder ∷ []) journal asks.form.2 asks.spelled)
no_journal_at words none (Serve base folder address workers connections None) asks = refl
no_journal_at words none (Serve base folder address workers connections (Some journal)) asks =
    absurd (none (codes "serve" ∷ base ∷ folder ∷ address ∷ decimal workers ∷ decimal connections ∷ []) journal asks.form.7 asks.spelled)
no_journal_at words none (Gen levels) asks = refl

-- what stands in front of it asks for neither
pub no_journal_behind : (words front : List (List ℕ)) (last : List ℕ) → words ≡ front ++ last ∷ []
    → ((base folder : List ℕ) → IsBase base → IsFolder folder → front ≡ codes "session" ∷ base ∷ folder ∷ [] → ⊥)
    → ((base folder address : List ℕ) (workers connections : ℕ) → IsAsked (Serve base folder address workers connections None)
    → front ≡ words_of (Serve base folder address workers connections None) → ⊥) → AskNoJournal words
no_journal_behind words front last is no_session no_service (Price base) asks = refl
no_journal_behind words front last is no_session no_service (Verify base) asks = refl
no_journal_behind words front last is no_session no_service (Check base folder) asks = refl
no_journal_behind words front last is no_session no_service (Canon base folder file) asks = refl
no_journal_behind words front last is no_session no_service (Links base folder profile) asks = refl
no_journal_behind words front last is no_session no_service (Route base folder profile from to) asks = refl
no_journal_behind words front last is no_session no_service (Session base folder None) asks = refl
no_journal_behind words front last is no_session no_service (Session base folder (Some journal)) asks =
    let same : front ++ last ∷ [] ≡ (codes "session" ∷ base ∷ folder ∷ []) ++ journal ∷ [] = sym is ∙ asks.spelled in
    absurd (no_session base folder asks.form.0 asks.form.1 (fronts front (codes "session" ∷ base ∷ folder ∷ []) last journal same))
no_journal_behind words front last is no_session no_service (Serve base folder address workers connections None) asks = refl
no_journal_behind words front last is no_session no_service (Serve base folder address workers connections (Some journal)) asks =
    let plain = codes "serve" ∷ base ∷ folder ∷ address ∷ decimal workers ∷ decimal connections ∷ [] in
    let same : front ++ last ∷ [] ≡ plain ++ journal ∷ [] = sym is ∙ asks.spelled in
    let form : IsAsked (Serve base folder address workers connections None) =
    (asks.form.0, asks.form.1, asks.form.2, asks.form.3, asks.form.4, asks.form.5, asks.form.6, tt) in
    absurd (no_service base folder address workers connections form (fronts front plain last journal same))
no_journal_behind words front last is no_session no_service (Gen levels) asks = refl

-- what holds, holds where nothing was found
pub where_none : {X : Type 0} (P : Type 0) (found : Option X) → P → IfNone found P
where_none P None holds = holds
where_none P (Some x) holds = tt
