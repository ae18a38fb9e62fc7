use Rattle.std.proofs.Common.{List, map, subst, sym}
use Rattle.venue_types.specs.declared.features.LevelRow.{LevelRow}
use Rattle.venue_types.specs.declared.features.UnitRow.{UnitRow}
use Rattle.venue_types.specs.declared.folder_file.File.TheVariants as file
use Rattle.feature_rows.specs.Indexes.{AreOnce}
use Rattle.contain_rules.specs.Banding.{AreCloseShapes}
use Rattle.contain_rules.specs.Holders.{IsShapeIndex}
use Rattle.contain_rules.proofs.Closeness.{close_levels, close_units}
use Rattle.contain_rules.proofs.holders.Holders.of.Goals as goal

pub of-requires-clause-once : goal.of-requires-clause-once
of-requires-clause-once c = subst (λ (rows : List LevelRow). AreOnce (map (λ (row : LevelRow). row.id) rows)) (sym c.as_slice.ensures) (c.once_law.ensures c.args.features.now file.Level c.requires.own_ids)

pub of-requires-clause-close : goal.of-requires-clause-close
of-requires-clause-close c = subst (λ (rows : List LevelRow). AreCloseShapes (map (λ (row : LevelRow). row.shape) rows)) (sym c.as_slice.ensures) (close_levels c.args.features.now c.requires.close)

pub of-requires-2-clause-once : goal.of-requires-2-clause-once
of-requires-2-clause-once c = subst (λ (rows : List UnitRow). AreOnce (map (λ (row : UnitRow). row.id) rows)) (sym c.as_slice-2.ensures) (c.once_law.ensures c.args.features.now file.Unit c.requires.own_ids)

pub of-requires-2-clause-close : goal.of-requires-2-clause-close
of-requires-2-clause-close c = subst (λ (rows : List UnitRow). AreCloseShapes (map (λ (row : UnitRow). row.shape) rows)) (sym c.as_slice-2.ensures) (close_units c.args.features.now c.requires.close)

pub returns : goal.returns
returns c = record {
  levels = subst (λ (rows : List LevelRow). IsShapeIndex (map (λ (row : LevelRow). row.id) rows) (map (λ (row : LevelRow). row.shape) rows) c.in_ok-of.field-0) c.as_slice.ensures c.in_ok-of.ensures;
  units = subst (λ (rows : List UnitRow). IsShapeIndex (map (λ (row : UnitRow). row.id) rows) (map (λ (row : UnitRow). row.shape) rows) c.in_ok-of-2.field-0) c.as_slice-2.ensures c.in_ok-of-2.ensures;
}
