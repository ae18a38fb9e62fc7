-- What a hall of one thread owes for each call.
use Rattle.std.proofs.Common.{◌≡◌, ℕ, ◌+◌, ◌-◌, ◌≤◌, refl, ap, arith, List, [], ◌∷◌, ◌++◌, Option, length}
use mathlib.Core.List.{IsPrefix}
use Rattle.venue_types.specs.declared.reply.Reply.{Reply}
use Rattle.venue_types.specs.declared.reply.Reply.TheVariants as reply
use Rattle.venue_ports.specs.Causes.{Rose}
use Rattle.venue_ports.specs.Files.{StoredFile}
use Rattle.venue_hall.specs.Entry.{Entry}
use Rattle.venue_hall.specs.Closed.{Version}
use Rattle.venue_hall.specs.Histories.{Replays}
use Rattle.venue_hall.specs.Replies.{told, IsJournalFault, IsOutsideFault}
use Rattle.board_copies.specs.Making.{shelf_of, CountsFault}
use Rattle.board_copies.proofs.Entering.{begun}

none_behind : (xs : List Entry) → xs ++ [] ≡ xs
none_behind [] = refl
none_behind (x ∷ xs) = ap (λ (ys : List Entry). x ∷ ys) (none_behind xs)

-- a list begins with itself
pub itself : (xs : List Entry) → IsPrefix xs xs
itself xs = ([], none_behind xs)

-- behind a history so many were made as the reply tells more
pub made_more : (h k : List Entry) (v : Version) (r : Reply) → Replays h v → length k ≡ length h + told r → length k - 1 ≡ (length h - 1) + told r
made_more h k v r stands grown = let some = begun h v stands in omega arith

pub later_faults : (before now : ℕ) (r : Reply) → CountsFault before now r → before ≤ now
later_faults before now (reply.FolderFault earlier later) counts = counts.2
later_faults before now _ same = omega arith

pub risen_faults : (before now : ℕ) (r : Reply) → CountsFault before now r → ¬ IsJournalFault r → IsOutsideFault r → Rose before now
risen_faults before now (reply.FolderFault earlier later) counts kept is = counts.3
risen_faults before now (reply.JournalFault earlier later) counts kept is = absurd (kept tt)
risen_faults before now _ same kept is = absurd is

pub same_shelf : (one other : Option (List StoredFile)) (x y : List ℕ) → one ≡ other → x ≡ y → shelf_of one x ≡ shelf_of other y
same_shelf one other x y files base = cc
