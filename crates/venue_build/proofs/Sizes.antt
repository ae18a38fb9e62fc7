-- No file of a venue is too large.
use Rattle.std.proofs.Common.{◌≡◌, ℕ, zero, suc, ◌^◌, ◌<◌, ◌≤◌, Bool, true, false, nat_lt, List, length, slice_get, Some, refl, inl, inr, sym, subst, arith}
use Rattle.std.proofs.lemmas.Bool.Decides.{nat_tests}
use Rattle.venue_types.specs.declared.files.Files.{Files}
use Rattle.venue_types.specs.declared.files.Slot.TheVariants.{Held}
use Rattle.venue_types.specs.declared.finding.Finding.{Finding}
use Rattle.venue_types.specs.declared.folder_file.File.{File}
use Rattle.venue_types.specs.declared.folder_file.File.TheVariants as file
use Rattle.venue_types.specs.FolderFiles.{file_number}
use Rattle.imdf_read.specs.Broken.{IsBroken}
use Rattle.imdf_read.specs.Rule.TheVariants.{F2}

-- the file of each number
numbered : (n : ℕ) → n < 17 → (f : File) × (file_number f ≡ n)
numbered zero less = (file.Manifest, refl)
numbered (suc zero) less = (file.Address, refl)
numbered (suc (suc zero)) less = (file.Amenity, refl)
numbered (suc (suc (suc zero))) less = (file.Anchor, refl)
numbered (suc (suc (suc (suc zero)))) less = (file.Building, refl)
numbered (suc (suc (suc (suc (suc zero))))) less = (file.Detail, refl)
numbered (suc (suc (suc (suc (suc (suc zero)))))) less = (file.Fixture, refl)
numbered (suc (suc (suc (suc (suc (suc (suc zero))))))) less = (file.Footprint, refl)
numbered (suc (suc (suc (suc (suc (suc (suc (suc zero)))))))) less = (file.Geofence, refl)
numbered (suc (suc (suc (suc (suc (suc (suc (suc (suc zero))))))))) less = (file.Kiosk, refl)
numbered (suc (suc (suc (suc (suc (suc (suc (suc (suc (suc zero)))))))))) less = (file.Level, refl)
numbered (suc (suc (suc (suc (suc (suc (suc (suc (suc (suc (suc zero))))))))))) less = (file.Occupant, refl)
numbered (suc (suc (suc (suc (suc (suc (suc (suc (suc (suc (suc (suc zero)))))))))))) less = (file.Opening, refl)
numbered (suc (suc (suc (suc (suc (suc (suc (suc (suc (suc (suc (suc (suc zero))))))))))))) less = (file.Relationship, refl)
numbered (suc (suc (suc (suc (suc (suc (suc (suc (suc (suc (suc (suc (suc (suc zero)))))))))))))) less = (file.Section, refl)
numbered (suc (suc (suc (suc (suc (suc (suc (suc (suc (suc (suc (suc (suc (suc (suc zero))))))))))))))) less = (file.Unit, refl)
numbered (suc (suc (suc (suc (suc (suc (suc (suc (suc (suc (suc (suc (suc (suc (suc (suc zero)))))))))))))))) less = (file.Venue, refl)
numbered (suc (suc (suc (suc (suc (suc (suc (suc (suc (suc (suc (suc (suc (suc (suc (suc (suc n))))))))))))))))) less = absurd (omega (arith, less))

at_most_by : (a b : ℕ) (t : Bool) → nat_lt a b ≡ t → ¬ (a < b) → b ≤ a
at_most_by a b true e never = absurd (never (grind (arith, nat_tests)))
at_most_by a b false e never = grind (arith, nat_tests)

-- the finding of rule F2 in a file
large : File → Finding
large f = record { rule = 2; file = file_number f; index = 0; member = 0 }

-- a file that is too large would be found
not_large : (files : Files) → ((x : Finding) → ¬ IsBroken files x) → (f : File) (bytes : List ℕ) → slice_get files.slots (file_number f) ≡ Some (Held bytes) → ¬ (2 ^ 25 < length bytes)
unfolding large
not_large files unbroken f bytes there more =
    unbroken (large f) (record {
      rule = F2;
      number = refl;
      breaks = inr (inl (record { source = f; slot = Held bytes; held = there; breaks = more; at = record { in_file = refl; at_index = refl; at_member = refl } }));
    })

pub within : (files : Files) → ((x : Finding) → ¬ IsBroken files x) → (number : ℕ) (bytes : List ℕ) → number < 17 → slice_get files.slots number ≡ Some (Held bytes) → length bytes ≤ 2 ^ 25
within files unbroken number bytes less there =
    let source = numbered number less in
    at_most_by (2 ^ 25) (length bytes) (nat_lt (2 ^ 25) (length bytes)) refl
    (not_large files unbroken source.0 bytes (subst (λ (n : ℕ). slice_get files.slots n ≡ Some (Held bytes)) (sym source.1) there))
