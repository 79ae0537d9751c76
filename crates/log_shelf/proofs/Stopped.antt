-- What a stop leaves of a shelf and its backends, by their numbers.
use Rattle.std.proofs.Common.{◌≡◌, ◌∙◌, sym, ap, refl, subst, ℕ, List, [], ◌∷◌, true, false, cond, ◌||◌, ◌==◌}
use Rattle.std.proofs.Common.{IsTrue, Option, Some}
use Rattle.std.specs.Prelude.{is_none}
use Rattle.std.specs.Option.{option_map_or}
use Rattle.std.proofs.lemmas.Bool.{eqb-true}
use Rattle.node_backend.specs.Numbers.{is_among}
use Rattle.log_shelf.specs.Entries.{entries_of}
use Rattle.log_shelf.specs.Backends.{HoldsOrDoubts}
use Rattle.log_shelf.specs.Manifests.{live_of}
use Rattle.log_shelf.specs.Rooms.{Files, file_in}
use Rattle.log_shelf.specs.Recovery.{IsStopped}
use Rattle.log_shelf.specs.Stops.{held_of, doubt_of}
use Rattle.log_shelf.specs.Shelves.{numbers_of, held_at, doubt_at, AreLeft, WasStopped, LosesNoPair}
use Rattle.log_shelf.specs.declared.disk.Disk.{Ghosts as Disks}
use Rattle.log_shelf.specs.declared.room.Room.{Ghosts as Rooms}
use Rattle.log_shelf.specs.declared.backend.LogBackend.{LogBackend}
use Rattle.log_shelf.specs.declared.shelf.LogShelf.{LogShelf}
use Rattle.log_shelf.proofs.Backends.{log-withstands}
use Rattle.log_shelf.proofs.Manifests.{log-live}
use Rattle.log_shelf.proofs.Recovery.{pairs_recovered}

module _ {D : Type 0} {disk : Disks D} where
  -- the file of the backend of a number
  file_at : (files : Files) (bs : List (LogBackend D disk)) (n : ℕ) → AreLeft files bs → IsTrue (is_among (numbers_of bs) n)
      → (file : List ℕ) × (file_in files n ≡ Some file) × HoldsOrDoubts file (held_at bs n) (doubt_at bs n)
  file_at files [] n left among = absurd (cc)
  file_at files (b ∷ bs) n left among =
      elim (b.number == n) as (λ t. (b.number == n) ≡ t → (t || is_among (numbers_of bs) n) ≡ true
      → (file : List ℕ) × (file_in files n ≡ Some file) × HoldsOrDoubts file (cond t (held_of b) (held_at bs n)) (cond t (doubt_of
      b) (doubt_at bs n))) [
        | true ↦ λ e _. (left.0.0, ap (file_in files) (sym (eqb-true b.number n e)) ∙ left.0.1, log-withstands b.log left.0.0 left.0.2)
        | false ↦ λ _ r. file_at files bs n left.1 r
      ] refl among

module _ {R D : Type 0} {room : Rooms R D} {disk : Disks D} where
  stopped : (s : LogShelf R D room disk) (bs : List (LogBackend D disk)) (files : Files) → WasStopped s bs files
      → IsStopped (numbers_of bs) (numbers_of s.spent.items) (held_at bs) (doubt_at bs) files
  stopped s bs files was = record {
    numbered = λ n among. s.listed.positive n (was.listed n among);
    manifest = λ n among. subst (λ (es : List (List ℕ)). IsTrue (is_among (live_of es) n))
        (sym (ap (λ (o : Option (List ℕ)). option_map_or entries_of o []) was.manifest.1))
        ((log-live s.live.items (numbers_of s.spent.items) s.made (is_none s.broken) s.manifest s.listed was.manifest.0 was.manifest.2).0 n
        (was.listed n among));
    logs = λ n among. file_at files bs n was.logs among;
    others = was.others;
  }

  pub loses_no_pair : (s : LogShelf R D room disk) → LosesNoPair s
  loses_no_pair s bs files is_record found was kept recovered =
      pairs_recovered (numbers_of bs) (numbers_of s.spent.items) (held_at bs) (doubt_at bs) files is_record found (stopped s bs files
      was) kept recovered
