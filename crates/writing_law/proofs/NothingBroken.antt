-- The first phase finds nothing in the fixed form of sound rows.
use Rattle.std.proofs.Common.{◌≡◌, List, Option, Some, subst, inl, inr, arith}
use Rattle.std.specs.Prelude.{slice_get}
use Rattle.std.proofs.lemmas.List.Elements.{All-contains}
use Rattle.exact_json.specs.Json.{Json}
use Rattle.geo_shapes.specs.Laws.{HasOnePoint}
use Rattle.geo_shapes.specs.Numbers.{SameNumbers}
use Rattle.venue_types.specs.declared.features.Features.{Features}
use Rattle.venue_types.specs.declared.finding.Finding.{Finding}
use Rattle.venue_types.proofs.Items.{member_at}
use Rattle.imdf_schema.specs.Contents.{content_items}
use Rattle.imdf_schema.specs.declared.rules.Rule.{Rule}
use Rattle.imdf_schema.specs.declared.rules.Rule.TheVariants.{S1, S2}
use Rattle.imdf_read.specs.Broken.{FolderBreaks, BreaksInFile, BreaksInItem}
use Rattle.imdf_write.specs.Folder.{features_of}
use Rattle.writing_law.specs.Written.{FitsFeatures, written, IsWithinLimit, content_of, FindsNothing}
use Rattle.writing_law.proofs.Files.{SpellsItself, content_held, items_there}
use Rattle.writing_law.proofs.Keeps.{BreaksNone, features_keep}
use Rattle.writing_law.proofs.KeptFiles.{HasOneJson, file_keeps}
use Rattle.writing_law.proofs.KeptFolder.{one_content, few_features, few_positions}

module _ (spells : SpellsItself) (one : HasOneJson) (point : HasOnePoint) (same : SameNumbers) (features : Features) (fits : FitsFeatures features) (limit : IsWithinLimit features) where
  folder_keeps : (r : Rule) → ¬ FolderBreaks r (written features)
  folder_keeps S1 b = let few = few_features spells one same features fits limit b.0 b.1 in omega (arith, b.2)
  folder_keeps S2 b = let few = few_positions spells one same features fits limit b.0 b.1 in omega (arith, b.2)
  folder_keeps _ b = b

  in_file : (r : Rule) (x : Finding) → ¬ BreaksInFile (written features) r x
  in_file r x b = file_keeps spells one same features fits limit r b.source b.slot b.held b.breaks

  -- an item of a file is one of its features
  in_item : (r : Rule) (x : Finding) → ¬ BreaksInItem (written features) r x
  in_item r x b =
      let ours = content_held spells same features fits limit b.source b.features in
      let content : b.content ≡ content_of (features_of b.source features) = one_content one (written features) b.source b.content (content_of (features_of b.source features)) b.held ours in
      let held : slice_get (content_items (content_of (features_of b.source features))) x.index ≡ Some b.item = subst (λ (c : Option Json). slice_get (content_items c) x.index ≡ Some b.item) content b.there in
      let there : slice_get (features_of b.source features) x.index ≡ Some b.item = subst (λ (vs : List Json). slice_get vs x.index ≡ Some b.item) (items_there (features_of b.source features)) held in
      All-contains (BreaksNone b.source) (features_of b.source features) b.item (features_keep point features b.source fits) (member_at (features_of b.source features) x.index b.item there) r x.member b.breaks

  pub nothing_broken : FindsNothing (written features)
  nothing_broken x broken = elim broken.breaks [
    | inl folder ↦ folder_keeps broken.rule folder.0
    | inr rest ↦ elim rest [ inl in_one ↦ in_file broken.rule x in_one | inr item ↦ in_item broken.rule x item ]
  ]
