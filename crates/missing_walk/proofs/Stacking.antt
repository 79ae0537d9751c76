-- How the stack of a search changes, step by step.
use Rattle.std.proofs.Common.{◌≡◌, ℕ, suc, ◌+◌, ◌-◌, ◌<◌, ◌==◌, Bool, true, false, List, [], ◌∷◌, ◌++◌, length}
use Rattle.std.proofs.Common.{Some, Result, Ok, Err, OnOk, OnErr, if◌then◌else◌, refl, sym, ap, ◌∙◌, subst, arith}
use Rattle.std.proofs.Common.{length-append, append-nil}
use Rattle.std.specs.Prelude.{reverse, map}
use Rattle.half_hash.specs.declared.Memory.{Memory}
use Rattle.std.specs.List.{slice_get}
use Rattle.std.proofs.lemmas.List.{append_assoc, map-append, reverse-append}
use Rattle.std.proofs.lemmas.Bool.Decides.{nat_tests}
use Rattle.ledger_spec.specs.declared.Kind.{Kind}
use Rattle.ledger_spec.specs.Bytes.{Hash, Half, Lookup}
use Rattle.full_below.specs.declared.key.MarkKey.{MarkKey}
use Rattle.full_below.specs.declared.marks.Marks.{Marks}
use Rattle.full_below.specs.Marking.{after_mark, AreMarked}
use Rattle.full_below.proofs.shared.Using.{marked_more}
use Rattle.missing_walk.specs.declared.todo.Todo.{Todo}
use Rattle.missing_walk.specs.declared.todo.Open.{Open}
use Rattle.missing_walk.specs.Pending.{Pending, pending_of, stacked, kid, kids_from, IsFull, Within, Around}
use Rattle.missing_walk.specs.Stacks.{Pushes, Extends, is_topped}
use Rattle.missing_walk.proofs.Frames.{around_close, around_within}

pub stacked_more : (a b : List Todo) → stacked (a ++ b) ≡ stacked b ++ stacked a
stacked_more a b = ap reverse (map-append pending_of a b) ∙ reverse-append (map pending_of a) (map pending_of b)

pub stacked_top : (rest : List Todo) (top : Todo) → stacked (rest ++ top ∷ []) ≡ pending_of top ∷ stacked rest
stacked_top rest top = stacked_more rest (top ∷ [])

pub length_stacked : (ts : List Todo) → length (stacked ts) ≡ length ts
length_stacked [] = refl
length_stacked (t ∷ ts) =
    ap length (stacked_more (t ∷ []) ts) ∙ (omega (arith, length-append (stacked ts) (pending_of t ∷ []), length_stacked ts))

pub pushes_none : (a : List Todo) → Pushes a a []
pushes_none a = record { more = []; new_is = sym (append-nil a); places = refl }

pub pushes_then : (a b c : List Todo) (ks js : List Pending) → Pushes a b ks → Pushes b c js → Pushes a c (js ++ ks)
pushes_then a b c ks js p q = record {
  more = p.more ++ q.more;
  new_is = q.new_is ∙ ap (λ l. l ++ q.more) p.new_is ∙ append_assoc a p.more q.more;
  places = stacked_more p.more q.more ∙ (λ i. q.places i ++ p.places i);
}

pub extends_by : (a b : List Todo) (ks : List Pending) → Pushes a b ks → Extends a b
extends_by a b ks p = record { more = p.more; new_is = p.new_is }

pub extends_same : (a b c : List Todo) → Extends a b → c ≡ b → Extends a c
extends_same a b c e same = record { more = e.more; new_is = same ∙ e.new_is }

pub kids_none : (kind : Kind) (path : List ℕ) (hashes : List Hash) (a : ℕ) → kids_from kind path hashes a 0 ≡ []
unfolding kids_from
kids_none kind path hashes a = refl

-- one branch more, below those that are there
pub kids_more : (kind : Kind) (path : List ℕ) (hashes : List Hash) (i b a m n : ℕ) → b ≡ 15 - i → a ≡ 16 - i → m ≡ 16 - (i + 1)
    → n ≡ i + 1 → i < 16
    → kid kind path hashes b ++ kids_from kind path hashes a i ≡ kids_from kind path hashes m n
unfolding kids_from
kids_more kind path hashes i b a m n branch above first count lt =
    let here : m ≡ b = omega (arith, branch, first) in
    let next : a ≡ b + 1 = omega (arith, branch, above, lt) in
    ap (λ x. kid kind path hashes b ++ kids_from kind path hashes x i) next
    ∙ sym (ap (λ x. kids_from kind path hashes x n) here ∙ ap (λ x. kids_from kind path hashes b x) (count ∙ add_one i))
  where
    add_one : (k : ℕ) → k + 1 ≡ suc k
    add_one k = omega arith

-- an inner node whose places above its height are gone
module _ (half : Half) (nodes : Lookup) where
  topped : (o : Open) (height : ℕ) (ps : List Pending) → length ps ≡ height → (o.height == height) ≡ true → o.height ≡ length ps
  topped o height ps len e = grind (arith, nat_tests)

  untopped : (o : Open) (height : ℕ) (ps : List Pending) → length ps ≡ height → (o.height == height) ≡ false → o.height ≡ length ps → ⊥
  untopped o height ps len e same = grind (arith, nat_tests)

  pub settled : (os : List Open) (height : ℕ) (ps : List Pending) → length ps ≡ height → is_topped os height ≡ false
      → Around half nodes os ps → Within half nodes os ps
  settled [] height ps len e a = tt
  settled (o ∷ os) height ps len e a = around_within half nodes os o ps (untopped o height ps len e) a

  pub closed : (os : List Open) (o : Open) (height : ℕ) (ps : List Pending) → length ps ≡ height → is_topped (o ∷ os) height ≡ true
      → Around half nodes (o ∷ os) ps → IsFull half nodes o.at × Around half nodes os ps
  closed os o height ps len e a = around_close half nodes os o ps (topped o height ps len e) a

pub last_first : (items init : List Open) (done : Open) → items ≡ init ++ done ∷ [] → reverse items ≡ done ∷ reverse init
last_first items init done e = ap reverse e ∙ reverse-append init (done ∷ [])

test_own : (n : ℕ) → (n == n) ≡ true
test_own n = grind (arith, nat_tests)

-- a mark, whether there was memory for it or not
pub mark_keeps : (P : MarkKey → Type 0) (r : Result Bool Memory) (m m' : Marks) (key : MarkKey) (g : ℕ) → g ≡ m.generation
    → OnOk r (m' ≡ (if g == m.generation then after_mark m key else m)) → OnErr r (m' ≡ m) → P key → AreMarked P m → AreMarked P m'
mark_keeps P (Ok b) m m' key g same ok err is all =
    subst (AreMarked P) (sym (ok ∙ ap (λ t. if t then after_mark m key else m) (ap
    (λ k. k == m.generation) same ∙ test_own m.generation)))
    (marked_more P m key all is)
mark_keeps P (Err e) m m' key g same ok err is all = subst (AreMarked P) (sym err) all

branch : (b : Bool) (m : Marks) (key : MarkKey) → (if b then after_mark m key else m).generation ≡ m.generation
branch true m key = refl
branch false m key = refl

pub mark_generation : (r : Result Bool Memory) (m m' : Marks) (key : MarkKey) (g : ℕ)
    → OnOk r (m' ≡ (if g == m.generation then after_mark m key else m)) → OnErr r (m' ≡ m) → m'.generation ≡ m.generation
mark_generation (Ok b) m m' key g ok err = ap (λ (x : Marks). x.generation) ok ∙ branch (g == m.generation) m key
mark_generation (Err e) m m' key g ok err = ap (λ (x : Marks). x.generation) err

same_room : (b : Bool) (m : Marks) (key : MarkKey) → (if b then after_mark m key else m).entries.cap ≡ m.entries.cap
same_room true m key = refl
same_room false m key = refl

pub mark_room : (r : Result Bool Memory) (m m' : Marks) (key : MarkKey) (g : ℕ)
    → OnOk r (m' ≡ (if g == m.generation then after_mark m key else m)) → OnErr r (m' ≡ m) → m'.entries.cap ≡ m.entries.cap
mark_room (Ok b) m m' key g ok err = ap (λ (x : Marks). x.entries.cap) ok ∙ same_room (g == m.generation) m key
mark_room (Err e) m m' key g ok err = ap (λ (x : Marks). x.entries.cap) err

-- the last one, behind the others
pub record EndsIn (xs : List Todo) (x : Todo) : Type 0 where
  pub rest : List Todo
  pub is : xs ≡ rest ++ x ∷ []

pub last_is : (xs : List Todo) (x : Todo) → Some x ≡ slice_get xs (length xs - 1) → EndsIn xs x
last_is [] x e = cc
last_is (y ∷ []) x e = let same : y ≡ x = cc in record { rest = []; is = ap (λ z. z ∷ []) same }
last_is (y ∷ z ∷ ys) x e =
    let n : length (y ∷ z ∷ ys) - 1 ≡ suc (length (z ∷ ys) - 1) = omega arith in
    let last : EndsIn (z ∷ ys) x = last_is (z ∷ ys) x (e ∙ ap (slice_get (y ∷ z ∷ ys)) n) in
    record { rest = y ∷ last.rest; is = ap (λ l. y ∷ l) last.is }

-- no list of none has a last one
pub no_last : {A : Type 0} (items init : List Open) (done : Open) → items ≡ init ++ done ∷ [] → items ≡ [] → A
no_last items [] done e none = let never : done ∷ [] ≡ [] = sym e ∙ none in cc
no_last items (o ∷ os) done e none = let never : o ∷ (os ++ done ∷ []) ≡ [] = sym e ∙ none in cc
