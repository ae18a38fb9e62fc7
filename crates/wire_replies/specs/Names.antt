-- The words of a body for kinds, classes, identifiers of a question, and refusals.
use Rattle.std.specs.Prelude.{ℕ, List, codes}
use Rattle.venue_types.specs.declared.kind.Kind.{Kind}
use Rattle.venue_types.specs.declared.kind.Kind.TheVariants as kind
use Rattle.venue_types.specs.declared.kind.Class.{Class}
use Rattle.venue_types.specs.declared.kind.Class.TheVariants as class
use Rattle.venue_types.specs.declared.reply.Which.{Which}
use Rattle.venue_types.specs.declared.reply.Which.TheVariants as which
use Rattle.wire_frames.specs.declared.refusals.Refusal.{Refusal}
use Rattle.wire_frames.specs.declared.refusals.Refusal.TheVariants as refusal

-- how a step is passed
abbrev pub kind_name : Kind → List ℕ
kind_name kind.Floor = codes "floor"
kind_name kind.Elevator = codes "elevator"
kind_name kind.Escalator = codes "escalator"
kind_name kind.Movingwalkway = codes "movingwalkway"
kind_name kind.Ramp = codes "ramp"
kind_name kind.Stairs = codes "stairs"
kind_name kind.Traversal = codes "traversal"

-- what a node is
abbrev pub class_name : Class → List ℕ
class_name class.Amenity = codes "amenity"
class_name class.Anchor = codes "anchor"
class_name class.Occupant = codes "occupant"
class_name class.Opening = codes "opening"
class_name class.Unit = codes "unit"
class_name class.Corner = codes "corner"

-- the identifier of a question that names no place
abbrev pub which_name : Which → List ℕ
which_name which.From = codes "from"
which_name which.To = codes "to"
which_name which.Id = codes "id"
which_name which.Stop = codes "stop"

-- why a message is refused by itself
abbrev pub refusal_name : Refusal → List ℕ
refusal_name refusal.HeadTooLarge = codes "head_too_large"
refusal_name refusal.BadHead = codes "bad_head"
refusal_name refusal.TransferCoding = codes "transfer_coding"
refusal_name refusal.BodyTooLarge = codes "body_too_large"
refusal_name refusal.NoPath = codes "no_such_path"
refusal_name (refusal.Method methods) = codes "method"
refusal_name refusal.NotStaff = codes "not_staff"
refusal_name refusal.BadBody = codes "bad_body"
refusal_name refusal.BadQuery = codes "bad_query"
