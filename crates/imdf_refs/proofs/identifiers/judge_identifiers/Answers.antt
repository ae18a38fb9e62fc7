use Rattle.std.proofs.Common.{◌≡◌, ℕ, ◌+◌, ◌<◌, ◌≤◌, List, Some, length, get_or, sym, ap, subst, arith}
use Rattle.std.specs.Prelude.{slice_get}
use Rattle.std.proofs.lemmas.Option.{slice_get-get_or}
use Rattle.venue_types.specs.declared.folder_file.File.{File}
use Rattle.venue_types.specs.FolderFiles.{feature_files}
use Rattle.rule_reports.proofs.Adding.{Adds-start, Adds-step, Adds-end}
use Rattle.imdf_refs.specs.Index.{HasBefore}
use Rattle.imdf_refs.specs.Gathering.{RepeatsIn}
use Rattle.venue_types.proofs.FileNumbers.{nth_number}
use Rattle.imdf_refs.proofs.Indexing.{starts, all_files}
use Rattle.imdf_refs.proofs.Naming.{told_in_files}
use Rattle.imdf_refs.proofs.identifiers.judge_identifiers.Goals as goal

there : (files : List File) (i : ℕ) (d : File) → files ≡ feature_files → i < length files → slice_get feature_files i ≡ Some (get_or files i d)
there files i d is within = subst (λ (list : List File). slice_get list i ≡ Some (get_or files i d)) is (slice_get-get_or files i d within)

pub loop-file-init : goal.loop-file-init
loop-file-init c = record {
  known = starts c.args.features.now c.new-known.result c.new-known.ensures.ids c.new-known.ensures.typed;
  told = Adds-start _ _ _;
}

pub judge_file-requires-clause-known : goal.judge_file-requires-clause-known
judge_file-requires-clause-known c =
    let i = c.loop-file.file-index in
    subst (λ (n : ℕ). HasBefore c.args.features.now n 0 c.loop-file.known) (sym (nth_number i _ (there c.feature_files-file-items.result.now i _ c.feature_files-file-items.ensures (omega arith)))) c.loop-file.invariant.known

pub loop-file-preserved : goal.loop-file-preserved
loop-file-preserved c =
    let i = c.loop-file.file-index in
    record {
      known = subst (λ (n : ℕ). HasBefore c.args.features.now (n + 1) 0 c.judge_file.new.known) (nth_number i _ (there c.feature_files-file-items.result.now i _ c.feature_files-file-items.ensures (omega arith))) c.in_ok-judge_file.ensures.known;
      told = Adds-step (λ (j : ℕ) (f : File). RepeatsIn c.args.features.now f) feature_files i _ (there c.feature_files-file-items.result.now i _ c.feature_files-file-items.ensures (omega arith)) c.loop-file.invariant.told c.in_ok-judge_file.ensures.findings;
    }

pub returns : goal.returns
returns c =
    let i = c.loop-file.file-index in
    let features = c.args.features.now in
    let is = c.feature_files-file-items.ensures in
    let count : length c.feature_files-file-items.result.now ≡ 16 = ap length is in
    let end : i ≡ 16 = omega (arith, count) in
    record {
      known = all_files features c.loop-file.known (subst (λ (n : ℕ). HasBefore features (n + 1) 0 c.loop-file.known) end c.loop-file.invariant.known);
      findings = told_in_files features c.args.findings.now.items c.loop-file.findings.items
          (Adds-end (λ (j : ℕ) (f : File). RepeatsIn features f) feature_files i (subst (λ (list : List File). length list ≤ i) is c.loop-file-test.false) c.loop-file.invariant.told);
    }
