-- The items of an array, as the program has them and as the definitions do.
use Rattle.std.proofs.Common.{◌≡◌, List, [], ◌∷◌, map, Option, Some, refl, ap}
use Rattle.toml.specs.Data.{Data, Items}
use Rattle.toml.specs.View.{view, items_view}
use Rattle.toml.specs.declared.value.Value.{Value}
use Rattle.venue_settings.specs.declared.judge.Judgement.{Judgement}
use Rattle.venue_settings.specs.Values.{list_of, on_list}

pub list_of-items_view : (vs : List Value) → list_of (items_view vs) ≡ map view vs
list_of-items_view [] = refl
list_of-items_view (v ∷ vs) = ap (λ ds. view v ∷ ds) (list_of-items_view vs)

-- how the items of a value that is an array are judged
pub on_list_is : (judges : List Data → Judgement) (vs : List Value) (items : Option Items) → Some (items_view vs) ≡ items → judges (map view vs) ≡ on_list judges items
on_list_is judges vs items e = rw (← e) (rw list_of-items_view)
