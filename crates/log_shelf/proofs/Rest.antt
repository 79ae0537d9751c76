-- The room of the images is one that a stop may leave of a shelf and its backends.
use Rattle.std.proofs.Common.{◌≡◌, ◌≢◌, ◌⊎◌, inl, inr, ◌∙◌, sym, ap, refl, subst, ℕ, ◌<◌, List, [], ◌∷◌, Bool, true, false, cond, ◌||◌}
use Rattle.std.proofs.Common.{◌==◌, IsTrue, Some, None, arith}
use Rattle.std.specs.Ordering.{nat_cmp}
use Rattle.std.specs.Cmp.{nat_cmp_total, eq_by_cmp_equiv}
use Rattle.std.specs.FinMap as map
use Rattle.std.specs.FinMap.{get-insert, get-empty}
use Rattle.std.proofs.lemmas.Bool.{eqb-true, eq-eqb, ne_eqb, cases_Bool}
use Rattle.node_backend.specs.Numbers.{is_among}
use Rattle.log_shelf.specs.MemDisks.{applied, IsOutcome}
use Rattle.log_shelf.specs.Outcomes.{outcome-applied}
use Rattle.log_shelf.specs.Rooms.{Files, file_in}
use Rattle.log_shelf.specs.Shelves.{numbers_of, AreLeft, WasStopped}
use Rattle.log_shelf.specs.Images.{filled, image_of, with_images, images_of, ClimbsFrom, Climbs, AreOnShelf}
use Rattle.log_shelf.specs.declared.disk.Disk.{Ghosts as Disks}
use Rattle.log_shelf.specs.declared.room.Room.{Ghosts as Rooms}
use Rattle.log_shelf.specs.declared.memory.MemDisk.{MemDisk}
use Rattle.log_shelf.specs.declared.backend.LogBackend.{LogBackend}
use Rattle.log_shelf.specs.declared.shelf.LogShelf.{LogShelf}
use Rattle.log_shelf.proofs.Pending.{outcome-synced, outcome-filled}
use Rattle.log_shelf.proofs.Recovery.{at_file}
use Rattle.log_shelf.proofs.Rooms.{at_other}

-- what a map has at the number that was set, and at another one
get-here : (files : Files) (k : ℕ) (file : List ℕ) → file_in (map.insert files k file) k ≡ Some file
get-here files k file =
    get-insert nat_cmp_total files k file k
    ∙ ap (λ (b : Bool). cond b (Some file) (map.get files k)) ((eq_by_cmp_equiv nat_cmp_total).refl k)

other_number : (k n : ℕ) → (k == n) ≡ false → k ≢ n
other_number k n e same = absurd (cc (eq-eqb k n same, e))

get-there : (files : Files) (k n : ℕ) (file : List ℕ) → (k == n) ≡ false → file_in (map.insert files k file) n ≡ file_in files n
get-there files k n file other =
    get-insert nat_cmp_total files k file n
    ∙ ap (λ (b : Bool). cond b (Some file) (map.get files n)) (at_other n k (other_number k n other))

or_false : (a b : Bool) → (a || b) ≡ false → (a ≡ false) × (b ≡ false)
or_false true b e = absurd (cc)
or_false false b e = (refl, e)

or_right : (a b : Bool) → b ≡ true → (a || b) ≡ true
or_right true b e = refl
or_right false b e = e

or_left : (a b : Bool) → a ≡ true → (a || b) ≡ true
or_left a b e = rw e refl

zero_other : (n : ℕ) → 0 < n → (0 == n) ≡ false
zero_other n h = ne_eqb 0 n (λ (e : 0 ≡ n). absurd (omega arith))

-- numbers that climb are above the first
above : (low k : ℕ) (numbers : List ℕ) → ClimbsFrom low numbers → IsTrue (is_among numbers k) → low < k
above low k [] climbs among = absurd (cc)
above low k (n ∷ numbers) climbs among =
    elim (n == k) as (λ b. (n == k) ≡ b → (b || is_among numbers k) ≡ true → low < k) [
      | true ↦ λ e _. let same = eqb-true n k e in omega (arith, climbs.0)
      | false ↦ λ _ r. let more = above n k numbers climbs.1 r in omega (arith, climbs.0)
    ] refl among

not_among : (low : ℕ) (numbers : List ℕ) → ClimbsFrom low numbers → (is_among numbers low ≡ true) ⊎ (is_among numbers low ≡ false)
    → is_among numbers low ≡ false
not_among low numbers climbs (inl e) = let more = above low low numbers climbs e in absurd (omega arith)
not_among low numbers climbs (inr e) = e

climbs_zero : (numbers : List ℕ) → Climbs numbers → ((n : ℕ) → IsTrue (is_among numbers n) → 0 < n) → ClimbsFrom 0 numbers
climbs_zero [] climbs positive = tt
climbs_zero (n ∷ numbers) climbs positive = (positive n (or_left (n == n) (is_among numbers n) (eq-eqb n n refl)), climbs)

-- by each pick
outcome-image : (pick : ℕ) (disk : MemDisk) → IsOutcome disk.pending.items disk.synced.items (image_of pick disk)
outcome-image pick disk = one_of (pick == 0) (pick == 1)
  where
    one_of : (first second : Bool) → IsOutcome disk.pending.items disk.synced.items (cond first disk.synced.items
        (cond second (applied disk.pending.items disk.synced.items) (filled disk.pending.items disk.synced.items)))
    one_of true second = outcome-synced disk.pending.items disk.synced.items
    one_of false true = outcome-applied disk.pending.items disk.synced.items
    one_of false false = outcome-filled disk.pending.items disk.synced.items

module _ {disk : Disks MemDisk} where
  -- where none of the logs has the number
  elsewhere : (pick n : ℕ) (files : Files) (bs : List (LogBackend MemDisk disk)) → is_among (numbers_of bs) n ≡ false
      → file_in (with_images pick files bs) n ≡ file_in files n
  elsewhere pick n files [] none = refl
  elsewhere pick n files (b ∷ bs) none =
      let parts = or_false (b.number == n) (is_among (numbers_of bs) n) none in
      elsewhere pick n (map.insert files b.number (image_of pick b.log.disk)) bs parts.1
      ∙ get-there files b.number n (image_of pick b.log.disk) parts.0

  module _ (leaves : (d : MemDisk) (file : List ℕ) → IsOutcome d.pending.items d.synced.items file → disk.may_leave d file) where
    -- each log has its image
    images-left : (pick low : ℕ) (files all : Files) (bs : List (LogBackend MemDisk disk)) → ClimbsFrom low (numbers_of bs)
        → ((n : ℕ) → IsTrue (is_among (numbers_of bs) n) → file_in all n ≡ file_in (with_images pick files bs) n) → AreLeft all bs
    images-left pick low files all [] climbs same = tt
    images-left pick low files all (b ∷ bs) climbs same =
        let image = image_of pick b.log.disk in
        let more = map.insert files b.number image in (
          (
            image,
            same b.number (or_left (b.number == b.number) (is_among (numbers_of bs) b.number) (eq-eqb b.number b.number refl))
                ∙ (elsewhere pick b.number more bs (not_among b.number (numbers_of bs) climbs.1 (cases_Bool (is_among (numbers_of bs)
                b.number)))
                ∙ get-here files b.number image),
            leaves b.log.disk image (outcome-image pick b.log.disk),
          ),
          images-left pick b.number more all bs climbs.1 (λ n among. same n (or_right (b.number == n) (is_among (numbers_of bs) n) among)),
        )

    module _ {R : Type 0} {room : Rooms R MemDisk} where
      stopped_images : (pick : ℕ) (s : LogShelf R MemDisk room disk) (bs : List (LogBackend MemDisk disk)) → AreOnShelf s bs
          → WasStopped s bs (images_of pick s bs)
      stopped_images pick s bs on =
          let image = image_of pick s.manifest.disk in
          let aside = with_images pick map.empty s.spent.items in
          let positive : (n : ℕ) → IsTrue (is_among (numbers_of bs) n) → 0 < n = λ n among. s.listed.positive n (on.listed n among) in
          let apart : (n : ℕ) → 0 < n → (0 == n) ≡ false = λ n h. zero_other n h in
          record {
            manifest = (
              image,
              get-here (with_images pick aside bs) 0 image,
              leaves s.manifest.disk image (outcome-image pick s.manifest.disk),
            );
            listed = on.listed;
            logs = images-left pick 0 aside (images_of pick s bs) bs (climbs_zero (numbers_of bs) on.rise positive)
                (λ n among. get-there (with_images pick aside bs) 0 n image (apart n (positive n among)));
            others = λ n low named none free. at_file (images_of pick s bs) n None
                (get-there (with_images pick aside bs) 0 n image (apart n low)
                ∙ (elsewhere pick n aside bs none ∙ (elsewhere pick n map.empty s.spent.items free ∙ get-empty {X = List ℕ} nat_cmp n)));
          }

      pub images-stopped : (pick : ℕ) (s : LogShelf R MemDisk room disk) (bs : List (LogBackend MemDisk disk)) (files : Files)
          → files ≡ images_of pick s bs → AreOnShelf s bs → WasStopped s bs files
      images-stopped pick s bs files same on = subst (λ (f : Files). WasStopped s bs f) (sym same) (stopped_images pick s bs on)
