-- What is read of a property, whose texts are UTF-8 where those of its item are.
use Rattle.std.proofs.Common.{◌≡◌, Result, Ok, Err, IfOk, codes, subst}
use Rattle.exact_json.specs.Json.{Json, member, HasTexts}
use Rattle.imdf_schema.specs.declared.table.Property.{Property}
use Rattle.imdf_schema.specs.Properties.{property_name}
use Rattle.imdf_schema.specs.Items.{property}
use Rattle.imdf_rows.proofs.Texts.{member_has}

pub moved : {T E : Type 0} (r : Result T E) (v w : Json) (name : Property) (f : Json → T) → w ≡ property v name
    → IfOk r (λ t. HasTexts w → t ≡ f w) → IfOk r (λ t. HasTexts v → t ≡ f (property v name))
moved (Err e) v w name f same h = tt
moved {T} {E} (Ok t) v w name f same h = λ texts.
    let P : Json → Type 0 = λ x. HasTexts x → t ≡ f x in
    subst P same h (member_has (member v (codes "properties")) (property_name name) (member_has v (codes "properties") texts))
