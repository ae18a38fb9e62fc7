use Rattle.std.proofs.Common.{rules, ◌≤◌, length, arith}
use Rattle.venue_folder.proofs.AskedSlots.{asked_more}
use Rattle.venue_folder.proofs.Slots.{slots_more, slots_whole}
use Rattle.venue_folder.proofs.folder_files.slots_of.Goals as goal

pub returns-clause-told : goal.returns-clause-told
returns-clause-told g c =
    let all : length c.args.files.now ≤ c.loop-file.file-index = omega (arith, c.loop-file-test.false) in
    slots_whole (g.F.Folders.files c.args.folders.now) c.args.path.now c.args.files.now c.loop-file.slots.items c.loop-file.file-index all c.loop-file.invariant.told

pub loop-file-preserved : goal.loop-file-preserved
loop-file-preserved g c = record {
  told = slots_more (g.F.Folders.files c.args.folders.now) c.args.path.now c.args.files.now c.loop-file.file-index _ c.loop-file.slots.items _ _ c.loop-file-test.true c.loop-file.invariant.told
      (rw c.loop-file.invariant.same at c.in-Ok.ensures.told) c.in_ok-push-in-Ok.ensures.items;
  asked = asked_more c.args.path.now c.args.files.now c.loop-file.file-index _ _ _ _ c.loop-file-test.true c.loop-file.invariant.asked c.in-Ok.ensures.asked;
  count = search rules;
  same = search rules;
  kept = search rules;
}
