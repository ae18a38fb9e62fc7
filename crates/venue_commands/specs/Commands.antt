-- What the words of the command line can ask for.
use Rattle.std.specs.Prelude.{◌≡◌, ℕ, ◌<◌, ◌≤◌, Bool, true, false, List, [], ◌∷◌, length, Option, Some, None, IfSome, codes, nat_le, ◌==◌, ◌&&◌, ◌||◌}
use Rattle.std.specs.Fmt.{decimal}
use Rattle.std.specs.List.{Contains, list_all}
use Rattle.venue_types.specs.declared.feature_id.FeatureId.{FeatureId}
use Rattle.venue_types.specs.declared.folder_file.File.{File}
use Rattle.venue_types.specs.FolderFiles.{file_name}
use Rattle.venue_types.specs.Identifier.{identifier_read}

-- a session or a service may name a journal of the base, which keeps its changes
pub data Asked : Type 0 where
  Price : List ℕ → Asked
  Verify : List ℕ → Asked
  Check : List ℕ → List ℕ → Asked
  Canon : List ℕ → List ℕ → File → Asked
  Links : List ℕ → List ℕ → List ℕ → Asked
  Route : List ℕ → List ℕ → List ℕ → List ℕ → List ℕ → Asked
  Session : List ℕ → List ℕ → Option (List ℕ) → Asked
  Serve : List ℕ → List ℕ → List ℕ → ℕ → ℕ → Option (List ℕ) → Asked
  Gen : ℕ → Asked

-- the name of a base: 1 to 1,024 bytes without a zero byte
pub record IsBase (base : List ℕ) : Type 0 where
  pub some : 0 < length base
  pub short : length base ≤ 1024
  pub whole : Contains base 0 → ⊥

-- one of `a-z 0-9 _ -`
abbrev pub is_folder_byte : ℕ → Bool
is_folder_byte byte = (((nat_le 97 byte && nat_le byte 122) || (nat_le 48 byte && nat_le byte 57)) || byte == 95) || byte == 45

-- the name of a folder of a base: 1 to 64 of `a-z 0-9 _ -`
pub record IsFolder (folder : List ℕ) : Type 0 where
  pub some : 0 < length folder
  pub short : length folder ≤ 64
  pub plain : list_all is_folder_byte folder ≡ true

-- an address at which connections come: 1 to 256 bytes
pub record IsAddress (address : List ℕ) : Type 0 where
  pub some : 0 < length address
  pub short : length address ≤ 256

-- an identifier in one of its four forms
abbrev pub IsIdentifier : List ℕ → Type 0
IsIdentifier text = (id : FeatureId) × (identifier_read text ≡ Some id)

-- an operand that may be missing
abbrev pub operand : Option (List ℕ) → List (List ℕ)
operand None = []
operand (Some word) = word ∷ []

-- the words of a command
abbrev pub words_of : Asked → List (List ℕ)
words_of (Price base) = codes "price" ∷ base ∷ []
words_of (Verify base) = codes "verify" ∷ base ∷ []
words_of (Check base folder) = codes "check" ∷ base ∷ folder ∷ []
words_of (Canon base folder file) = codes "canon" ∷ base ∷ folder ∷ file_name file ∷ []
words_of (Links base folder profile) = codes "links" ∷ base ∷ folder ∷ profile ∷ []
words_of (Route base folder profile from to) = codes "route" ∷ base ∷ folder ∷ profile ∷ from ∷ to ∷ []
words_of (Session base folder journal) = codes "session" ∷ base ∷ folder ∷ operand journal
words_of (Serve base folder address workers connections journal) = codes "serve" ∷ base ∷ folder ∷ address ∷ decimal workers ∷ decimal connections ∷ operand journal
words_of (Gen levels) = codes "gen" ∷ decimal levels ∷ []

-- its words are of their form; any word may be a profile's name, a file is one of the seventeen of a folder, and a journal has the form of a folder
abbrev pub IsAsked : Asked → Type 0
IsAsked (Price base) = IsBase base
IsAsked (Verify base) = IsBase base
IsAsked (Check base folder) = IsBase base × IsFolder folder
IsAsked (Canon base folder file) = IsBase base × IsFolder folder
IsAsked (Links base folder profile) = IsBase base × IsFolder folder
IsAsked (Route base folder profile from to) = IsBase base × IsFolder folder × IsIdentifier from × IsIdentifier to
IsAsked (Session base folder journal) = IsBase base × IsFolder folder × IfSome journal IsFolder
IsAsked (Serve base folder address workers connections journal) =
    IsBase base × IsFolder folder × IsAddress address × (1 ≤ workers) × (workers ≤ 16) × (1 ≤ connections) × (connections ≤ 1000000) × IfSome journal IsFolder
IsAsked (Gen levels) = (1 ≤ levels) × (levels ≤ 200)

-- whether a command reads the console
abbrev pub reads_console : Asked → Bool
reads_console (Session base folder journal) = true
reads_console _ = false

-- whether a command opens the doors
abbrev pub opens_doors : Asked → Bool
opens_doors (Serve base folder address workers connections journal) = true
opens_doors _ = false

-- whether a command keeps a journal
abbrev pub keeps_journal : Asked → Bool
keeps_journal (Session base folder (Some journal)) = true
keeps_journal (Serve base folder address workers connections (Some journal)) = true
keeps_journal _ = false

-- the words ask for this
pub record Asks (words : List (List ℕ)) (asked : Asked) : Type 0 where
  pub form : IsAsked asked
  pub spelled : words ≡ words_of asked

-- the words ask for a command
pub record AskFor (words : List (List ℕ)) : Type 0 where
  pub asked : Asked
  pub asks : Asks words asked

-- the words ask for nothing
abbrev pub AskForNothing : List (List ℕ) → Type 0
AskForNothing words = (asked : Asked) → IsAsked asked → words ≡ words_of asked → ⊥

-- the words ask for nothing that reads the console
abbrev pub AskNoConsole : List (List ℕ) → Type 0
AskNoConsole words = (asked : Asked) → Asks words asked → reads_console asked ≡ false

-- the words ask for nothing that keeps a journal
abbrev pub AskNoJournal : List (List ℕ) → Type 0
AskNoJournal words = (asked : Asked) → Asks words asked → keeps_journal asked ≡ false

-- the words ask for nothing that opens the doors
abbrev pub AskNoDoors : List (List ℕ) → Type 0
AskNoDoors words = (asked : Asked) → Asks words asked → opens_doors asked ≡ false
