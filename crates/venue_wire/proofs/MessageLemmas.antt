-- A frame asks for one thing.
use Rattle.std.proofs.Common.{◌≡◌, ◌⊎◌, inl, inr, ℕ, ◌<◌, ◌+◌, Bool, true, false, List, [], ◌∷◌, Option, Some, None, refl, sym, ap, ◌∙◌, arith}
use Rattle.serde_json.specs.Data.{Data}
use Rattle.venue_types.specs.declared.query.Change.{Change}
use Rattle.wire_frames.specs.Frames.{PlainFrame}
use Rattle.wire_frames.specs.Heads.{HeadState, extent_from, ends_head, step}
use Rattle.wire_frames.specs.declared.heads.Extent.{Extent}
use Rattle.venue_wire.specs.Bodies.{AsksChange, change_in}
use Rattle.venue_wire.specs.Messages.{IsChanged, IsCalled, IsMessage, IsTaken, call_of}
use Rattle.venue_wire.specs.declared.calls.Call.{Call}
use Rattle.venue_wire.specs.declared.messages.Message.{Message}
use Rattle.venue_wire.specs.declared.paths.Path.{Path}

-- a body asks for one change of a path
one_change : (path : Path) (body : List ℕ) (change other : Change) → AsksChange path body change → AsksChange path body other → change ≡ other
one_change path body change other x y =
    let values : Some x.0 ≡ Some y.0 = sym x.1.reads ∙ y.1.reads in
    let value : x.0 ≡ y.0 = cc in
    let changes : Some change ≡ Some other = sym x.2 ∙ ap (λ (v : Data). change_in path v) value ∙ y.2 in
    cc

one_changed : (path : Path) (body : List ℕ) (m n : Message) → IsChanged path body m → IsChanged path body n → m ≡ n
one_changed path body (Message.Ask q) n x y = absurd x
one_changed path body (Message.Do c) (Message.Ask q) x y = absurd y
one_changed path body (Message.Do c) (Message.Do d) x y = ap Message.Do (one_change path body c d x y)
one_changed path body (Message.Do c) (Message.Refused r) x y = absurd (y.1 c x)
one_changed path body (Message.Refused r) (Message.Ask q) x y = absurd y
one_changed path body (Message.Refused r) (Message.Do c) x y = absurd (x.1 c y)
one_changed path body (Message.Refused r) (Message.Refused q) x y = ap Message.Refused (x.0 ∙ sym y.0)
one_changed path body (Message.Bare r) n x y = absurd x
one_changed path body Message.Unread n x y = absurd x
one_changed path body m (Message.Bare r) x y = absurd y
one_changed path body m Message.Unread x y = absurd y

one_called : (call : Call) (frame : PlainFrame) (m n : Message) → IsCalled call frame m → IsCalled call frame n → m ≡ n
one_called (Call.Refused r) frame m n x y = x ∙ sym y
one_called (Call.Get path) frame m n x y = x ∙ sym y
one_called (Call.Post path) frame m n x y = one_changed path frame.body m n x y

one_message : (keys : List (List ℕ)) (frame : PlainFrame) (m n : Message) → IsMessage keys frame m → IsMessage keys frame n → m ≡ n
one_message keys frame m n x y = one_called (call_of keys frame) frame m n x y

-- and is one message, where it is read
pub one_taken : (keys : List (List ℕ)) (frame : PlainFrame) (m n : Message) → IsTaken keys frame m → IsTaken keys frame n
    → (m ≡ n) ⊎ (m ≡ Message.Unread) ⊎ (n ≡ Message.Unread)
one_taken keys frame Message.Unread n x y = inr (inl refl)
one_taken keys frame m Message.Unread x y = inr (inr refl)
one_taken keys frame m n x y = inl (one_message keys frame m n x y)

length_or : ℕ → Option Extent → ℕ
length_or n None = n
length_or n (Some e) = e.length

-- a head has a byte or more
pub extent_grows : (place : HeadState) (n k : ℕ) (bytes : List ℕ) (e : Extent) → extent_from place n k bytes ≡ Some e → n < e.length
unfolding length_or
extent_grows place n k [] e is = absurd (cc)
extent_grows place n k (b ∷ bytes) e is =
    by_test (ends_head place b) refl (λ (q : HeadState) (j : ℕ). extent_grows q (n + 1) j bytes e)
  where
    by_test : (test : Bool) → ends_head place b ≡ test
        → ((q : HeadState) (j : ℕ) → extent_from q (n + 1) j bytes ≡ Some e → n + 1 < e.length) → n < e.length
    by_test true t later =
        let found = rw t at is in
        let same : n + 1 ≡ e.length = ap (λ (o : Option Extent). length_or (n + 1) o) found in
        omega (arith, same)
    by_test false t later = omega (arith, later (step place b) _ (rw t at is))
