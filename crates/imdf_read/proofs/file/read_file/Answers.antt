use Rattle.std.proofs.Common.{◌<◌, ◌^◌, Result, Ok, Err, length, ap, subst}
use Rattle.std.specs.Result.{IfOk}
use Rattle.exact_json.specs.Json.{Json, depth}
use Rattle.exact_json.specs.Grammar.{IsJson, Misread}
use Rattle.exact_json.specs.View.{tree_view}
use Rattle.exact_json.specs.declared.fault.JsonFault.{JsonFault}
use Rattle.rule_reports.proofs.Adding.{on_ok}
use Rattle.imdf_read.proofs.Narrow.{wider}
use Rattle.imdf_read.proofs.Slots.{value_known, text_fault, deep_fault}
use Rattle.imdf_read.proofs.file.read_file.Goals as goal

if_ok : {T E : Type 0} (r : Result T E) (P Q : T → Type 0) → IfOk r P → ((x : T) → P x → Q x) → IfOk r Q
if_ok (Ok x) P Q h f = f x h
if_ok (Err e) P Q h f = tt

pub take_tree-requires-clause-short : goal.take_tree-requires-clause-short
take_tree-requires-clause-short g c = wider (length c.as_slice-bytes.result.now) (2 ^ 25) (tree_view c.in-Ok.tree) c.if-bytes-gt-MAX_BYTES.false c.in-Ok.ensures.narrow

pub returns-in-Ok-clause-findings : goal.returns-in-Ok-clause-findings
returns-in-Ok-clause-findings g c =
    let known = value_known c.args.slot.now c.in-Held.bytes c.as_slice-bytes.result.now (tree_view c.in-Ok.tree) c.in-Held.is c.as_slice-bytes.ensures c.if-bytes-gt-MAX_BYTES.false c.in-Ok.ensures.ok.0 c.in-Ok.ensures.ok.1 c.in-Ok.ensures.only in
    on_ok c.take_tree.result _ _ c.take_tree.ensures.findings (λ h. h c.args.slot.now known)

pub returns-in-Ok-clause-notes : goal.returns-in-Ok-clause-notes
returns-in-Ok-clause-notes g c =
    let known = value_known c.args.slot.now c.in-Held.bytes c.as_slice-bytes.result.now (tree_view c.in-Ok.tree) c.in-Held.is c.as_slice-bytes.ensures c.if-bytes-gt-MAX_BYTES.false c.in-Ok.ensures.ok.0 c.in-Ok.ensures.ok.1 c.in-Ok.ensures.only in
    on_ok c.take_tree.result _ _ c.take_tree.ensures.notes (λ h. h c.args.slot.now known)

pub returns-in-Ok-clause-taken : goal.returns-in-Ok-clause-taken
returns-in-Ok-clause-taken g c =
    let known = value_known c.args.slot.now c.in-Held.bytes c.as_slice-bytes.result.now (tree_view c.in-Ok.tree) c.in-Held.is c.as_slice-bytes.ensures c.if-bytes-gt-MAX_BYTES.false c.in-Ok.ensures.ok.0 c.in-Ok.ensures.ok.1 c.in-Ok.ensures.only in
    if_ok c.take_tree.result _ _ c.take_tree.ensures.taken (λ t h. h c.args.slot.now known)

pub returns-in-Err-Text-clause-findings : goal.returns-in-Err-Text-clause-findings
returns-in-Err-Text-clause-findings g c =
    let fault = text_fault c.args.slot.now c.in-Held.bytes c.as_slice-bytes.result.now c.in-Held.is c.as_slice-bytes.ensures c.if-bytes-gt-MAX_BYTES.false (c.in-Err-Text.ensures.text (ap Err c.in-Err-Text.field-0-is)) in
    on_ok c.take_fault-in-Err-Text.result _ _ c.take_fault-in-Err-Text.ensures.findings (λ h. h c.args.slot.now fault)

pub returns-in-Err-Text-clause-notes : goal.returns-in-Err-Text-clause-notes
returns-in-Err-Text-clause-notes g c =
    let fault = text_fault c.args.slot.now c.in-Held.bytes c.as_slice-bytes.result.now c.in-Held.is c.as_slice-bytes.ensures c.if-bytes-gt-MAX_BYTES.false (c.in-Err-Text.ensures.text (ap Err c.in-Err-Text.field-0-is)) in
    on_ok c.take_fault-in-Err-Text.result _ _ c.take_fault-in-Err-Text.ensures.notes (λ h. h c.args.slot.now fault)

pub returns-in-Err-Text-clause-taken : goal.returns-in-Err-Text-clause-taken
returns-in-Err-Text-clause-taken g c =
    let fault = text_fault c.args.slot.now c.in-Held.bytes c.as_slice-bytes.result.now c.in-Held.is c.as_slice-bytes.ensures c.if-bytes-gt-MAX_BYTES.false (c.in-Err-Text.ensures.text (ap Err c.in-Err-Text.field-0-is)) in
    if_ok c.take_fault-in-Err-Text.result _ _ c.take_fault-in-Err-Text.ensures.taken (λ t h. h c.args.slot.now fault)

pub returns-in-Err-Deep-clause-findings : goal.returns-in-Err-Deep-clause-findings
returns-in-Err-Deep-clause-findings g c =
    let deep = c.in-Err-Deep.ensures.deep (ap Err c.in-Err-Deep.field-0-is) in
    let all : (w : Json) → IsJson c.as_slice-bytes.result.now w → 64 < depth w = λ w h. subst (λ (e : JsonFault). Misread w e) c.in-Err-Deep.field-0-is (c.in-Err-Deep.ensures.only w h) in
    let fault = deep_fault c.args.slot.now c.in-Held.bytes c.as_slice-bytes.result.now c.in-Held.is c.as_slice-bytes.ensures c.if-bytes-gt-MAX_BYTES.false deep.0 deep.1 deep.2 all in
    on_ok c.take_fault-in-Err-Deep.result _ _ c.take_fault-in-Err-Deep.ensures.findings (λ h. h c.args.slot.now fault)

pub returns-in-Err-Deep-clause-notes : goal.returns-in-Err-Deep-clause-notes
returns-in-Err-Deep-clause-notes g c =
    let deep = c.in-Err-Deep.ensures.deep (ap Err c.in-Err-Deep.field-0-is) in
    let all : (w : Json) → IsJson c.as_slice-bytes.result.now w → 64 < depth w = λ w h. subst (λ (e : JsonFault). Misread w e) c.in-Err-Deep.field-0-is (c.in-Err-Deep.ensures.only w h) in
    let fault = deep_fault c.args.slot.now c.in-Held.bytes c.as_slice-bytes.result.now c.in-Held.is c.as_slice-bytes.ensures c.if-bytes-gt-MAX_BYTES.false deep.0 deep.1 deep.2 all in
    on_ok c.take_fault-in-Err-Deep.result _ _ c.take_fault-in-Err-Deep.ensures.notes (λ h. h c.args.slot.now fault)

pub returns-in-Err-Deep-clause-taken : goal.returns-in-Err-Deep-clause-taken
returns-in-Err-Deep-clause-taken g c =
    let deep = c.in-Err-Deep.ensures.deep (ap Err c.in-Err-Deep.field-0-is) in
    let all : (w : Json) → IsJson c.as_slice-bytes.result.now w → 64 < depth w = λ w h. subst (λ (e : JsonFault). Misread w e) c.in-Err-Deep.field-0-is (c.in-Err-Deep.ensures.only w h) in
    let fault = deep_fault c.args.slot.now c.in-Held.bytes c.as_slice-bytes.result.now c.in-Held.is c.as_slice-bytes.ensures c.if-bytes-gt-MAX_BYTES.false deep.0 deep.1 deep.2 all in
    if_ok c.take_fault-in-Err-Deep.result _ _ c.take_fault-in-Err-Deep.ensures.taken (λ t h. h c.args.slot.now fault)
