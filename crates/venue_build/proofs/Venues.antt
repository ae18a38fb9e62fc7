-- A venue is fixed by its rows, its settings and its notes.
use Rattle.std.proofs.Common.{◌≡◌, ◌∙◌, List, ap}
use Rattle.venue_types.specs.declared.features.Features.{Features}
use Rattle.venue_types.specs.declared.settings.Settings.{Settings}
use Rattle.venue_types.specs.declared.finding.Note.{Note}
use Rattle.venue_build.specs.Venues.{SeenVenue}

made : Features → Settings → List Note → SeenVenue
made features settings notes = record { features = features; settings = settings; notes = notes }

pub same_venue : (one other : SeenVenue) → one.features ≡ other.features → one.settings ≡ other.settings → one.notes ≡ other.notes → one ≡ other
unfolding made
same_venue one other rows settings notes =
    ap (λ (f : Features). made f one.settings one.notes) rows
    ∙ ap (λ (s : Settings). made other.features s one.notes) settings
    ∙ ap (λ (n : List Note). made other.features other.settings n) notes
