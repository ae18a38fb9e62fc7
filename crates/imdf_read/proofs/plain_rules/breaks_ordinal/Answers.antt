use Rattle.std.proofs.Common.{rules, sym}
use denote.Enum.Bare.{same_true}
use Rattle.exact_json.specs.View.{tree_view}
use Rattle.venue_types.specs.contracts.folder_file.File.{the_type}
use Rattle.venue_types.specs.declared.folder_file.File.TheVariants as file
use Rattle.imdf_schema.specs.Values.{seen}
use Rattle.imdf_read.proofs.PlainRules.{ordinal_rule}
use Rattle.imdf_read.proofs.plain_rules.breaks_ordinal.Goals as goal

pub returns-then-eq : goal.returns-then-eq
returns-then-eq c = ordinal_rule c.args.file (tree_view c.args.item.now) (seen c.unlisted_property.result) c.is_ordinal.result
    (same_true the_type (search rules) c.args.file file.Level (sym c.if-eq.ensures)) c.requires c.unlisted_property.ensures c.is_ordinal.ensures
