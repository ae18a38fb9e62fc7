use Rattle.venue_types.specs.FolderFiles.{file_number}
use Rattle.rule_reports.specs.Passes.{Adds}
use Rattle.rule_reports.proofs.Adding.{Below}
use Rattle.imdf_refs.specs.Index.{HasBefore}
use Rattle.imdf_refs.proofs.Naming.{RepeatsAt}
use Rattle.imdf_refs.proofs.identifiers.judge_file.Given as goal

-- the features before are in the index, and those of them that repeat an identifier are found
abbrev pub invariant-loop-k : goal.invariant-loop-k
invariant-loop-k l = record {
  known : HasBefore l.features (file_number l.file) l.k l.known;
  told : Adds (Below (RepeatsAt l.features l.file) l.id-items l.k) l.initial.findings.items l.findings.items;
}
