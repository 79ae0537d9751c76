-- What a store keeps of its backends is what recovery asks of a shelf's.
use Rattle.std.proofs.Common.{◌≡◌, ◌⊎◌, inl, inr, ◌≤◌, ◌<◌, ◌∙◌, sym, ap, refl, subst, ℕ, Bool, true, false, ◌||◌, ◌==◌, IsTrue, cond, List, [], ◌∷◌}
use Rattle.std.proofs.Common.{length, Option, Some, None, arith}
use Rattle.std.specs.Prelude.{IfSome}
use Rattle.std.specs.Option.{option_map, option_or, option_to_list}
use Rattle.std.specs.Ordering.{nat_cmp}
use Rattle.std.specs.Cmp.Lexicographic.{slice_cmp}
use Rattle.std.specs.FinMap as finite
use Rattle.std.specs.FinMap.{get-empty}
use Rattle.std.proofs.lemmas.Bool.{eqb-true, eq-eqb, ne_eqb}
use Rattle.ledger_spec.specs.Bytes.{Bytes, Hash, Half, Nodes}
use Rattle.node_backend.specs.Numbers.{is_among, exceeds}
use Rattle.node_backend.specs.Doubts.{Pair}
use Rattle.node_backend.proofs.shared.Lists.{below_among}
use Rattle.rotating_store.specs.Keeps.{Allows, Numbered, Keeps}
use Rattle.rotating_store.specs.Stores.{Agree, merged}
use Rattle.rotating_store.proofs.shared.Merging.{get-merged}
use Rattle.log_shelf.specs.Recovery.{IsKept}
use Rattle.log_shelf.specs.Images.{AreOnShelf}
use Rattle.log_shelf.specs.Stops.{held_of, doubt_of}
use Rattle.log_shelf.specs.Shelves.{numbers_of, held_at, doubt_at, LosesNoPair}
use Rattle.log_shelf.specs.declared.disk.Disk.{Ghosts as Disks}
use Rattle.log_shelf.specs.declared.room.Room.{Ghosts as Rooms}
use Rattle.log_shelf.specs.declared.backend.LogBackend.{LogBackend}
use Rattle.log_shelf.specs.declared.shelf.LogShelf.{LogShelf}
use Rattle.log_recovery.specs.Records.{is_record}
use Rattle.log_recovery.specs.Parts.{backends_of, LosesNoForm}
use Rattle.log_recovery.proofs.Fitting.{stored_record}

or_left : (a b : Bool) → a ≡ true → (a || b) ≡ true
or_left a b e = rw e refl

or_right : (a b : Bool) → b ≡ true → (a || b) ≡ true
or_right true b e = refl
or_right false b e = e

other_number : (n k : ℕ) → n < k → (n == k) ≡ false
other_number n k less = ne_eqb n k (λ (same : n ≡ k). absurd (omega arith))

same_value : (m : Nodes) (h : Hash) (v w : Bytes) → finite.get m h ≡ Some v → finite.get m h ≡ Some w → v ≡ w
same_value m h v w a b = cc

-- the map doesn't hold the hash of this pair with another value
allowed : (m : Nodes) (doubt : Option Pair) (pair : Pair) (v : Bytes) → Allows m doubt → doubt ≡ Some pair
    → finite.get m pair.0 ≡ Some v → v ≡ pair.1
allowed m doubt pair v allows is has = (subst (λ (p : Option Pair). Allows m p) is allows) v has

agree_empty : (m held : Nodes) → m ≡ finite.empty → Agree m held
agree_empty m held none h v w has other = absurd (no_value h v (sym (get-empty {X = Bytes} (slice_cmp nat_cmp) h) ∙ (ap (λ (x : Nodes).
    finite.get x h) (sym none) ∙ has)))
  where
    no_value : (h : Hash) (v : Bytes) → None ≡ Some v → ⊥
    no_value h v e = cc

allows_none : (m : Nodes) (doubt : Option Pair) → doubt ≡ None → Allows m doubt
allows_none m doubt none = subst (λ (p : Option Pair). Allows m p) (sym none) tt

-- a number of a list that begins with one that is live, and whose others are
listed_one : (live : List ℕ) (a : ℕ) (rest : List ℕ) (n : ℕ) → IsTrue (is_among live a) → IsTrue (is_among (a ∷ rest) n)
    → (IsTrue (is_among rest n) → IsTrue (is_among live n)) → IsTrue (is_among live n)
listed_one live a rest n is among others =
    elim (a == n) as (λ b. (a == n) ≡ b → (b || is_among rest n) ≡ true → IsTrue (is_among live n)) [
      | true ↦ λ e _. subst (λ (k : ℕ). IsTrue (is_among live k)) (eqb-true a n e) is
      | false ↦ λ _ more. others more
    ] refl among

listed_two : (live : List ℕ) (a w : ℕ) (rest : List ℕ) (n : ℕ) → IsTrue (is_among live a) → IsTrue (is_among live w)
    → IsTrue (is_among (a ∷ w ∷ rest) n) → (IsTrue (is_among rest n) → IsTrue (is_among live n)) → IsTrue (is_among live n)
listed_two live a w rest n first second among others =
    listed_one live a (w ∷ rest) n first among (λ more. listed_one live w rest n second more others)

module _ {D : Type 0} {disk : Disks D} where
  -- a later backend has a greater number, agrees with this one, and its pair in doubt would change nothing here
  pub record IsBehind (b c : LogBackend D disk) : Type 0 where
    pub rises : b.number < c.number
    pub agree : Agree (held_of c) (held_of b)
    pub allows : Allows (held_of b) (doubt_of c)

  abbrev pub AllBehind : LogBackend D disk → List (LogBackend D disk) → Type 0
  AllBehind b [] = Unit {0}
  AllBehind b (c ∷ cs) = IsBehind b c × AllBehind b cs

  abbrev pub AreInOrder : List (LogBackend D disk) → Type 0
  AreInOrder [] = Unit {0}
  AreInOrder (b ∷ bs) = Allows (held_of b) (doubt_of b) × AllBehind b bs × AreInOrder bs

  -- the first is the backend of the number
  record IsFirst (b : LogBackend D disk) (bs : List (LogBackend D disk)) (n : ℕ) : Type 0 where
    number : b.number ≡ n
    held : held_at (b ∷ bs) n ≡ held_of b
    doubt : doubt_at (b ∷ bs) n ≡ doubt_of b

  -- or one behind it
  record IsLater (b : LogBackend D disk) (bs : List (LogBackend D disk)) (n : ℕ) : Type 0 where
    among : IsTrue (is_among (numbers_of bs) n)
    held : held_at (b ∷ bs) n ≡ held_at bs n
    doubt : doubt_at (b ∷ bs) n ≡ doubt_at bs n

  which : (b : LogBackend D disk) (bs : List (LogBackend D disk)) (n : ℕ) (t : Bool) → (b.number == n) ≡ t
      → (t || is_among (numbers_of bs) n) ≡ true → IsFirst b bs n ⊎ IsLater b bs n
  which b bs n true e among = inl (record {
    number = eqb-true b.number n e;
    held = ap (λ (x : Bool). cond x (held_of b) (held_at bs n)) e;
    doubt = ap (λ (x : Bool). cond x (doubt_of b) (doubt_at bs n)) e;
  })
  which b bs n false e among = inr (record {
    among = among;
    held = ap (λ (x : Bool). cond x (held_of b) (held_at bs n)) e;
    doubt = ap (λ (x : Bool). cond x (doubt_of b) (doubt_at bs n)) e;
  })

  one_of : (b : LogBackend D disk) (bs : List (LogBackend D disk)) (n : ℕ) → IsTrue (is_among (numbers_of (b ∷ bs)) n)
      → IsFirst b bs n ⊎ IsLater b bs n
  one_of b bs n among = which b bs n (b.number == n) refl among

  -- what stands behind a backend, by its number
  record StandsBehind (b : LogBackend D disk) (bs : List (LogBackend D disk)) (n : ℕ) : Type 0 where
    rises : b.number < n
    agree : Agree (held_at bs n) (held_of b)
    allows : Allows (held_of b) (doubt_at bs n)

  behind : (b : LogBackend D disk) (bs : List (LogBackend D disk)) (n : ℕ) → AllBehind b bs → IsTrue (is_among (numbers_of bs) n)
      → StandsBehind b bs n
  behind b [] n all among = absurd (cc)
  behind b (c ∷ cs) n all among = elim (one_of c cs n among) [
    | inl f ↦ record {
      rises = subst (λ (k : ℕ). b.number < k) f.number all.0.rises;
      agree = subst (λ (m : Nodes). Agree m (held_of b)) (sym f.held) all.0.agree;
      allows = subst (λ (p : Option Pair). Allows (held_of b) p) (sym f.doubt) all.0.allows;
    }
    | inr l ↦
        let rest = behind b cs n all.1 l.among in
        record {
          rises = rest.rises;
          agree = subst (λ (m : Nodes). Agree m (held_of b)) (sym l.held) rest.agree;
          allows = subst (λ (p : Option Pair). Allows (held_of b) p) (sym l.doubt) rest.allows;
        }
  ]

  agree_two : (bs : List (LogBackend D disk)) → AreInOrder bs → (n m : ℕ) (h : Hash) (v w : Bytes) → IsTrue (is_among (numbers_of bs) n)
      → IsTrue (is_among (numbers_of bs) m) → finite.get (held_at bs n) h ≡ Some v → finite.get (held_at bs m) h ≡ Some w → v ≡ w
  agree_two [] order n m h v w n_in m_in has other = absurd (cc)
  agree_two (b ∷ bs) order n m h v w n_in m_in has other =
      let at : (m k : Nodes) → m ≡ k → (u : Bytes) → finite.get m h ≡ Some u → finite.get k h ≡ Some u =
      λ m k same u is. subst (λ (x : Nodes). finite.get x h ≡ Some u) same is in
      elim (one_of b bs n n_in) [
        | inl f ↦ elim (one_of b bs m m_in) [
          | inl g ↦ same_value (held_of b) h v w (at _ _ f.held v has) (at _ _ g.held w other)
          | inr k ↦ sym ((behind b bs m order.1 k.among).agree h w v (at _ _ k.held w other) (at _ _ f.held v has))
        ]
        | inr l ↦ elim (one_of b bs m m_in) [
          | inl g ↦ (behind b bs n order.1 l.among).agree h v w (at _ _ l.held v has) (at _ _ g.held w other)
          | inr k ↦ agree_two bs order.2 n m h v w l.among k.among (at _ _ l.held v has) (at _ _ k.held w other)
        ]
      ]

  allows_two : (bs : List (LogBackend D disk)) → AreInOrder bs → (n m : ℕ) (pair : Pair) (v : Bytes)
      → IsTrue (is_among (numbers_of bs) n) → IsTrue (is_among (numbers_of bs) m) → m ≤ n → doubt_at bs n ≡ Some pair
      → finite.get (held_at bs m) pair.0 ≡ Some v → v ≡ pair.1
  allows_two [] order n m pair v n_in m_in le is has = absurd (cc)
  allows_two (b ∷ bs) order n m pair v n_in m_in le is has =
      let at : (m k : Nodes) → m ≡ k → finite.get m pair.0 ≡ Some v → finite.get k pair.0 ≡ Some v =
      λ m k same here. subst (λ (x : Nodes). finite.get x pair.0 ≡ Some v) same here in
      elim (one_of b bs n n_in) [
        | inl f ↦ elim (one_of b bs m m_in) [
          | inl g ↦ allowed (held_of b) (doubt_of b) pair v order.0 (sym f.doubt ∙ is) (at _ _ g.held has)
          | inr k ↦
              let up = (behind b bs m order.1 k.among).rises in
              let same = f.number in
              absurd (omega arith)
        ]
        | inr l ↦ elim (one_of b bs m m_in) [
          | inl g ↦ allowed (held_of b) (doubt_at bs n) pair v (behind b bs n order.1 l.among).allows (sym l.doubt ∙ is) (at _ _ g.held has)
          | inr k ↦ allows_two bs order.2 n m pair v l.among k.among le (sym l.doubt ∙ is) (at _ _ k.held has)
        ]
      ]

  above_first : (b : LogBackend D disk) (bs : List (LogBackend D disk)) (n : ℕ) → AllBehind b bs
      → IsTrue (is_among (numbers_of (b ∷ bs)) n) → b.number ≤ n
  above_first b bs n all among = elim (one_of b bs n among) [
    | inl f ↦ let same = f.number in omega arith
    | inr l ↦ let up = (behind b bs n all l.among).rises in omega arith
  ]

  -- backends in order, of which the first exceeds those whose discard failed
  pub kept : (b : LogBackend D disk) (bs : List (LogBackend D disk)) (undone : List ℕ) → AreInOrder (b ∷ bs) → IsTrue (exceeds b.number undone)
      → IsKept (numbers_of (b ∷ bs)) undone (held_at (b ∷ bs)) (doubt_at (b ∷ bs))
  kept b bs undone order above = record {
    agree = agree_two (b ∷ bs) order;
    allows = allows_two (b ∷ bs) order;
    undone_below = λ k n aside live.
        let low = below_among b.number k undone above aside in
        let up = above_first b bs n order.1 live in omega arith;
  }

  -- a store's backends are in order
  in_order : {X : Type 0} (archive writable : LogBackend D disk) (ready : Option X) (at : X → LogBackend D disk)
      → archive.number < writable.number
      → IfSome (option_map (λ x. (at x).number) ready) (λ n. writable.number < n)
      → Keeps (held_of writable) (held_of archive) (doubt_of writable) (doubt_of archive) (option_map (λ x. held_of (at x)) ready)
      (option_map (λ x. doubt_of (at x)) ready)
      → AreInOrder (backends_of archive writable (option_map at ready))
  in_order a w None at rises more keeps = (
    keeps.archive_own,
    (record { rises = rises; agree = keeps.agree; allows = keeps.archive_allows }, tt),
    (keeps.writable_own, tt, tt),
  )
  in_order a w (Some r) at rises more keeps = (
    keeps.archive_own,
    (
      record { rises = rises; agree = keeps.agree; allows = keeps.archive_allows },
      (
        record {
          rises = omega (arith, rises, more);
          agree = agree_empty (held_of (at r)) (held_of a) keeps.ready_empty;
          allows = allows_none (held_of a) (doubt_of (at r)) keeps.ready_sure;
        },
        tt,
      ),
    ),
    (
      keeps.writable_own,
      (
        record {
          rises = more;
          agree = agree_empty (held_of (at r)) (held_of w) keeps.ready_empty;
          allows = allows_none (held_of w) (doubt_of (at r)) keeps.ready_sure;
        },
        tt,
      ),
      (allows_none (held_of (at r)) (doubt_of (at r)) keeps.ready_sure, tt, tt),
    ),
  )

  -- a form that either of the two backends holds is held by the one of its number
  held_there : (a w : LogBackend D disk) (bs : List (LogBackend D disk)) (h : Hash) (form : Bytes) → a.number < w.number
      → (o : Option Bytes) → finite.get (held_of w) h ≡ o → option_or o (finite.get (held_of a) h) ≡ Some form
      → (n : ℕ) × IsTrue (is_among (numbers_of (a ∷ w ∷ bs)) n) × (finite.get (held_at (a ∷ w ∷ bs) n) h ≡ Some form)
  held_there a w bs h form rises None none has = (
    a.number,
    or_left (a.number == a.number) (is_among (numbers_of (w ∷ bs)) a.number) (eq-eqb a.number a.number refl),
    ap (λ (b : Bool). finite.get (cond b (held_of a) (held_at (w ∷ bs) a.number)) h) (eq-eqb a.number a.number refl) ∙ has,
  )
  held_there a w bs h form rises (Some v) some has =
      let mine : (w.number == w.number) ≡ true = eq-eqb w.number w.number refl in (
        w.number,
        or_right (a.number == w.number) (is_among (numbers_of (w ∷ bs)) w.number) (or_left (w.number == w.number) (is_among (numbers_of
            bs) w.number) mine),
        ap (λ (b : Bool). finite.get (cond b (held_of a) (held_at (w ∷ bs) w.number)) h) (other_number a.number w.number rises)
            ∙ (ap (λ (b : Bool). finite.get (cond b (held_of w) (held_at bs w.number)) h) mine ∙ (some ∙ has)),
      )

module _ {R D X : Type 0} {room : Rooms R D} {disk : Disks D} where
  -- over any files that a stop left, each form of the store that may be stored is recovered
  pub loses_no_form : (half : Half) → ((x : Bytes) → length (half x) ≡ 32) → (s : LogShelf R D room disk)
      (archive writable : LogBackend D disk) (ready : Option X) (at : X → LogBackend D disk) (nodes : Nodes) → LosesNoPair s
      → Numbered s.live.items (numbers_of s.spent.items) archive.number writable.number (option_map (λ x. (at x).number) ready)
      → Keeps (held_of writable) (held_of archive) (doubt_of writable) (doubt_of archive) (option_map (λ x. held_of (at x)) ready)
      (option_map (λ x. doubt_of (at x)) ready)
      → nodes ≡ merged (held_of writable) (held_of archive)
      → LosesNoForm half s (backends_of archive writable (option_map at ready)) nodes
  loses_no_form half sized s a w ready at nodes loses numbers keeps merges files found was is h form has stored =
      let bs = backends_of a w (option_map at ready) in
      let there = held_there a w (option_to_list (option_map at ready)) h form numbers.rises (finite.get (held_of w) h) refl
      (sym (get-merged (held_of w) (held_of a) h) ∙ (ap (λ (m : Nodes). finite.get m h) (sym merges) ∙ has)) in
      loses bs files (is_record half) found was
      (kept a (w ∷ option_to_list (option_map at ready)) (numbers_of s.spent.items) (in_order a w ready at numbers.rises
      numbers.ready_rises keeps) numbers.above_undone) is
      there.0 h form there.1 there.2 (stored_record half sized h form stored)

  -- a store's backends are on its shelf
  pub on_shelf : (s : LogShelf R D room disk) (archive writable : LogBackend D disk) (ready : Option X) (at : X → LogBackend D disk)
      → Numbered s.live.items (numbers_of s.spent.items) archive.number writable.number (option_map (λ x. (at x).number) ready)
      → AreOnShelf s (backends_of archive writable (option_map at ready))
  on_shelf s a w None at numbers = record {
    listed = λ n among. listed_two s.live.items a.number w.number [] n numbers.archive_live numbers.writable_live among (λ none. absurd (cc));
    rise = (numbers.rises, tt);
  }
  on_shelf s a w (Some r) at numbers = record {
    listed = λ n among. listed_two s.live.items a.number w.number ((at r).number ∷ []) n numbers.archive_live numbers.writable_live among
        (λ one. listed_one s.live.items (at r).number [] n numbers.ready_live one (λ none. absurd (cc)));
    rise = (numbers.rises, (numbers.ready_rises, tt));
  }
