-- The keys of the settings and of a profile, in the order in which they are judged: what stands at each, within what range, and whether it is needed.
use Rattle.std.specs.Prelude.{ℕ, Bool, true, false, List, [], ◌∷◌, codes}
use Rattle.venue_settings.specs.declared.keys.Form.{Form}
use Rattle.venue_settings.specs.declared.keys.Form.TheVariants.{Whole, StaffKeys, Profiles, Name, Truth, Inside}

-- a key; the range is of the number, of the list's count or of the text's length
pub record Row : Type 0 where
  pub name : List ℕ
  pub needed : Bool
  pub form : Form
  pub low : ℕ
  pub high : ℕ

-- a key that has to be there
abbrev pub needed : List ℕ → Form → ℕ → ℕ → Row
needed name form low high = record { name = name; needed = true; form = form; low = low; high = high }

-- a key that may be left out
abbrev pub optional : List ℕ → Form → ℕ → ℕ → Row
optional name form low high = record { name = name; needed = false; form = form; low = low; high = high }

-- the keys of the settings: centimetres per degree, nanodegrees, a word, centimetres, a number of versions, and two lists
abbrev pub settings_rows : List Row
settings_rows =
    needed (codes "kx") Whole 1 20000000
    ∷ needed (codes "ky") Whole 1 20000000
    ∷ optional (codes "border_tol") Whole 0 100000
    ∷ optional (codes "contain_tol") Whole 0 1000000
    ∷ optional (codes "inside") Inside 0 0
    ∷ optional (codes "elevator_extra") Whole 0 1000000
    ∷ optional (codes "escalator_extra") Whole 0 1000000
    ∷ optional (codes "movingwalkway_extra") Whole 0 1000000
    ∷ optional (codes "ramp_extra") Whole 0 1000000
    ∷ optional (codes "stairs_extra") Whole 0 1000000
    ∷ optional (codes "traversal_extra") Whole 0 1000000
    ∷ optional (codes "last_version") Whole 1 4294967295
    ∷ optional (codes "staff_keys") StaffKeys 0 64
    ∷ optional (codes "profile") Profiles 0 14
    ∷ []

-- a flag of a profile
abbrev pub flag : List ℕ → Row
flag name = optional name Truth 0 0

-- the keys of a profile: its name and its flags
abbrev pub profile_rows : List Row
profile_rows =
    needed (codes "name") Name 1 32
    ∷ flag (codes "elevator")
    ∷ flag (codes "escalator")
    ∷ flag (codes "movingwalkway")
    ∷ flag (codes "ramp")
    ∷ flag (codes "stairs")
    ∷ flag (codes "revolving")
    ∷ flag (codes "turnstile")
    ∷ flag (codes "restricted")
    ∷ flag (codes "marked")
    ∷ []
