use Rattle.writing_law.proofs.ReadRows.{features_fit}
use Rattle.writing_law.proofs.laws.fit_law.Goals as goal

pub returns : goal.returns
returns c files features seventeen are none =
    features_fit files features none (c.sound_reading_law.ensures files features seventeen none are) (c.ordinals_law.ensures files features none are)
    (c.doors_law.ensures files features are) (c.passages_law.ensures files features are) are
