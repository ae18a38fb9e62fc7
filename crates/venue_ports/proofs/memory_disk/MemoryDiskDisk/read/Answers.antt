use Rattle.std.proofs.Common.{◌+◌, ◌≤◌, ℕ, List, length, ap, subst, sym, ◌∙◌}
use Rattle.venue_ports.proofs.DiskSteps.{of_told}
use Rattle.venue_ports.proofs.memory_disk.MemoryDiskDisk.read.Goals as goal

pub fill-requires : goal.fill-requires
fill-requires c = record {
  within = subst (λ (l : List ℕ). c.args.at + length c.args.buf.now ≤ length l) (sym (c.content.ensures ∙ c.call.ensures.content))
      (of_told (λ (l : List ℕ). c.args.at + length c.args.buf.now ≤ length l) c.args.self.now.calls c.in_ok-call.ensures.told c.requires.within);
}
