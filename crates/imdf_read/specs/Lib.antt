pub mod Counts
pub mod Broken
pub mod Noted
pub mod Gathering
pub mod Judging
pub mod Taking
pub mod Progress
pub mod Out
pub mod Ordinals
pub use Rattle.imdf_schema.specs.declared.rules.Rule
pub use Rattle.imdf_schema.specs.Places
pub use Rattle.imdf_schema.specs.Rules as AllRules
pub use Rattle.imdf_rows.specs.Folder
pub use Rattle.feature_rows.specs.Rows
pub use Rattle.feature_rows.specs.Sound
pub use Rattle.feature_rows.specs.Figures
pub use Rattle.feature_rows.specs.declared.index.Index
pub use Rattle.feature_rows.specs.Indexes
