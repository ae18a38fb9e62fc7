-- Reads that were asked for, one span after the other.
use Rattle.std.proofs.Common.{refl, sym, ap, ◌∙◌, List, [], ◌++◌, Option, Some, None, append_assoc}
use Rattle.std.proofs.lemmas.List.{append-nil}
use Rattle.std.proofs.lemmas.Option.{none-some, same_Some}
use Rattle.venue_ports.specs.Asked.{AskedFile, HaveAsked}

pub asked_nothing : (told : Option (List AskedFile)) → HaveAsked [] told told
asked_nothing None = tt
asked_nothing (Some told) = (told, refl, sym (append-nil told))

pub asked_joined : (first second : List AskedFile) (before between now : Option (List AskedFile)) → HaveAsked first before between → HaveAsked second between now
    → HaveAsked (first ++ second) before now
asked_joined first second before between None a b = tt
asked_joined first second before None (Some now) a (e, is, rest) = absurd (none-some e is)
asked_joined first second before (Some between) (Some now) (x, x_is, x_rest) (e, is, rest) =
    (x, x_is, rest ∙ ap (λ (l : List AskedFile). l ++ second) (sym (same_Some between e is) ∙ x_rest) ∙ append_assoc x first second)
