use Rattle.std.proofs.Common.{◌<◌, Err, ap, subst}
use Rattle.exact_json.specs.Json.{Json, depth}
use Rattle.exact_json.specs.Grammar.{IsJson, Misread}
use Rattle.exact_json.specs.View.{tree_view}
use Rattle.exact_json.specs.declared.fault.JsonFault.{JsonFault}
use Rattle.rule_reports.proofs.Adding.{on_ok}
use Rattle.imdf_read.proofs.Slots.{value_known, text_fault, deep_fault}
use Rattle.imdf_read.proofs.manifest.judge_manifest.Goals as goal

pub returns-in-Ok : goal.returns-in-Ok
returns-in-Ok c =
    let known = value_known c.args.slot.now c.in-Held.bytes c.as_slice-bytes.result.now (tree_view c.in-Ok.tree) c.in-Held.is c.as_slice-bytes.ensures c.if-bytes-gt-MAX_BYTES.false c.in-Ok.ensures.ok.0 c.in-Ok.ensures.ok.1 c.in-Ok.ensures.only in
    on_ok c.judge_tree.result _ _ c.judge_tree.ensures (λ h. h c.args.slot.now known)

pub returns-in-Err-Text : goal.returns-in-Err-Text
returns-in-Err-Text c =
    let fault = text_fault c.args.slot.now c.in-Held.bytes c.as_slice-bytes.result.now c.in-Held.is c.as_slice-bytes.ensures c.if-bytes-gt-MAX_BYTES.false (c.in-Err-Text.ensures.text (ap Err c.in-Err-Text.field-0-is)) in
    on_ok c.judge_fault-in-Err-Text.result _ _ c.judge_fault-in-Err-Text.ensures (λ h. h c.args.slot.now fault)

pub returns-in-Err-Deep : goal.returns-in-Err-Deep
returns-in-Err-Deep c =
    let deep = c.in-Err-Deep.ensures.deep (ap Err c.in-Err-Deep.field-0-is) in
    let all : (w : Json) → IsJson c.as_slice-bytes.result.now w → 64 < depth w = λ w h. subst (λ (e : JsonFault). Misread w e) c.in-Err-Deep.field-0-is (c.in-Err-Deep.ensures.only w h) in
    let fault = deep_fault c.args.slot.now c.in-Held.bytes c.as_slice-bytes.result.now c.in-Held.is c.as_slice-bytes.ensures c.if-bytes-gt-MAX_BYTES.false deep.0 deep.1 deep.2 all in
    on_ok c.judge_fault-in-Err-Deep.result _ _ c.judge_fault-in-Err-Deep.ensures (λ h. h c.args.slot.now fault)
