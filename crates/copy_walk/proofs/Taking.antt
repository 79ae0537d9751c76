-- What the calls of a walk do, as strides.
use Rattle.std.proofs.Common.{◌≡◌, ◌≢◌, inl, inr, ⊎_elim, ◌++◌, ◌∷◌, ◌+◌, ◌≤◌, ◌<◌, [], ℕ, List}
use Rattle.std.proofs.Common.{Option, None, Some, Contains, length, refl, sym, ap, ◌∙◌, subst}
use Rattle.std.proofs.Common.{Result, Ok, Err, OnErr}
use Rattle.std.proofs.Common.{arith, append_assoc, length-append}
use Rattle.std.specs.FinMap as finite
use Rattle.std.proofs.lemmas.List.{append-nil}
use Rattle.std.proofs.lemmas.List.Elements.{Contains-append_left, Contains-append_right}
use Rattle.ledger_spec.specs.Bytes.{Bytes, Hash, Lookup, Nodes}
use Rattle.ledger_spec.specs.Reach.{kids}
use Rattle.rotating_store.specs.Stores.{Store, nodes_of}
use Rattle.copy_walk.specs.Walks.{Walk, Keeps, Colours, ShadesSome, HasToo}
use Rattle.copy_walk.specs.Strides.{Strides, Copies, Leaves, here, copied, named, again, absent, found}
use Rattle.copy_walk.specs.Counts.{IsCopied, CopiesAtMost}
use Rattle.copy_walk.specs.Slices.{CopiesOne, Blackens, Strode, IsCutShort, Drains, KeepsRule, SameRest}
use Rattle.copy_walk.proofs.Lists.{in_first}
use Rattle.copy_walk.proofs.shared.Striding.{strides_on, colours_stay, shaded_still, kept_stays, kept_was, held_was}

-- ---- counts
pub copies_none : (nodes m : Lookup) → CopiesAtMost 0 nodes m m
copies_none nodes m = record {
  copied = [];
  few = omega arith;
  all = λ h c. absurd (c.there c.lacked);
}

pub copies_more : (a b : ℕ) (nodes m m' : Lookup) → a ≤ b → CopiesAtMost a nodes m m' → CopiesAtMost b nodes m m'
copies_more a b nodes m m' le c = record { copied = c.copied; few = omega (arith, le, c.few); all = c.all }

pub copies_one : (nodes : Lookup) (h : Hash) (m m' : Lookup) → Copies nodes h m m' → CopiesAtMost 1 nodes m m'
copies_one nodes h m m' copies = record {
  copied = h ∷ [];
  few = omega arith;
  all = λ q c. at q c (m' q) refl;
}
  where
    at : (q : Hash) → IsCopied nodes m m' q → (o : Option Bytes) → m' q ≡ o → Contains (h ∷ []) q
    at q c None e = absurd (c.there e)
    at q c (Some form) e = ⊎_elim
        (λ was. absurd (there (m q) form was c.lacked))
        (λ new. subst (Contains (h ∷ [])) (sym new.0) (in_first h []))
        (copies.only q form e)
      where
        there : (o : Option Bytes) (f : Bytes) → o ≡ Some f → o ≡ None → ⊥
        there None f x y = cc
        there (Some g) f x y = cc

pub copies_on : (a b : ℕ) (nodes m m1 m2 : Lookup) → CopiesAtMost a nodes m m1 → CopiesAtMost b nodes m1 m2 → CopiesAtMost (a + b) nodes m m2
copies_on a b nodes m m1 m2 c d = record {
  copied = c.copied ++ d.copied;
  few = omega (arith, c.few, d.few, length-append c.copied d.copied);
  all = λ q e. at q e (m1 q) refl;
}
  where
    at : (q : Hash) → IsCopied nodes m m2 q → (o : Option Bytes) → m1 q ≡ o → Contains (c.copied ++ d.copied) q
    at q e None is = Contains-append_right c.copied d.copied q (d.all q (record { stored = e.stored; lacked = is; there = e.there }))
    at q e (Some form) is = Contains-append_left c.copied d.copied q (c.all q (record {
      stored = e.stored;
      lacked = e.lacked;
      there = λ none. some_none (m1 q) form is none;
    }))
      where
        some_none : (o : Option Bytes) (f : Bytes) → o ≡ Some f → o ≡ None → ⊥
        some_none None f x y = cc
        some_none (Some g) f x y = cc

-- ---- strides
-- some of what a grey hash names is shaded
named_all : (nodes : Lookup) (w : Walk) (held : Lookup) (n : ℕ) (m : Lookup) (h : Hash) (form : Bytes) → nodes h ≡ Some form
    → (u : Walk) (more : List Hash) → Contains u.grey h → ((k : Hash) → Contains more k → Contains (kids form) k)
    → Strides nodes w held n u m → Strides nodes w held n (record { grey = u.grey ++ more; black = u.black }) m
named_all nodes w held n m h form is u [] grey all s =
    subst (λ (hs : List Hash). Strides nodes w held n (record { grey = hs; black = u.black }) m) (sym (append-nil u.grey)) s
named_all nodes w held n m h form is u (k ∷ more) grey all s =
    let next : Walk = record { grey = u.grey ++ k ∷ []; black = u.black } in
    let on : Strides nodes w held n next m =
    named s h k form grey is (all k (in_first k more)) (record { black = refl; grey = inr refl }) in
    subst (λ (hs : List Hash). Strides nodes w held n (record { grey = hs; black = u.black }) m) (append_assoc u.grey (k ∷ []) more)
    (named_all nodes w held n m h form is next more (Contains-append_left u.grey (k ∷ []) h grey)
    (λ q c. all q (Contains-append_right (k ∷ []) more q c)) on)

pub strides_named : (nodes : Lookup) (w : Walk) (held : Lookup) (n : ℕ) (u : Walk) (m : Lookup) (h : Hash) (form : Bytes) (v : Walk)
    → Strides nodes w held n u m → nodes h ≡ Some form → Contains u.grey h → ShadesSome u (kids form) v → Strides nodes w held n v m
strides_named nodes w held n u m h form v s is grey some =
    subst (λ (x : Walk). Strides nodes w held n x m) (λ i. record { grey = sym some.grey i; black = sym some.black i })
    (named_all nodes w held n m h form is u some.more grey some.only s)

module _ (w : Walk) (s s' : Store) (h : Hash) (grey : Contains w.grey h) (one : CopiesOne h s s') where
  abbrev nodes : Lookup
  nodes = finite.get (nodes_of s)

  -- the form was copied at most
  copy_strides : Strides nodes w (finite.get s.writable) 0 w (finite.get s'.writable)
  copy_strides = copied here h grey one.copies

  pub strode_copy : Strode 0 1 w s w s'
  strode_copy = record { nodes = one.nodes; archive = one.archive; strides = copy_strides; few = copies_one nodes h _ _ one.copies }

  -- and some of what it names is shaded
  pub strode_named : (form : Bytes) (v : Walk) → nodes h ≡ Some form → ShadesSome w (kids form) v → Strode 0 1 w s v s'
  strode_named form v is some = record {
    nodes = one.nodes;
    archive = one.archive;
    strides = strides_named nodes w _ 0 w _ h form v copy_strides is grey some;
    few = copies_one nodes h _ _ one.copies;
  }

  -- nothing is stored under it
  pub strode_absent : (v : Walk) → nodes h ≡ None → Leaves w h v → v.black ≡ w.black → Strode 1 1 w s v s'
  strode_absent v gone leaves same = record {
    nodes = one.nodes;
    archive = one.archive;
    strides = absent copy_strides h leaves gone same;
    few = copies_one nodes h _ _ one.copies;
  }

  -- it becomes black
  pub strode_found : (form : Bytes) (v : Walk) → nodes h ≡ Some form → finite.get s'.writable h ≡ nodes h → Blackens w h (kids form) v
      → Strode 1 1 w s v s'
  strode_found form v is there b = record {
    nodes = one.nodes;
    archive = one.archive;
    strides = found (strides_named nodes w _ 0 w _ h form b.mid copy_strides is grey b.shades) h form b.leaves is (there ∙ is) b.all
        (subst (λ (hs : List Hash). HasToo v.black hs h) (sym b.shades.black) b.black);
    few = copies_one nodes h _ _ one.copies;
  }

-- a black hash is taken again
pub strode_again : (w v : Walk) (s : Store) (h : Hash) → Leaves w h v → Contains w.black h → v.black ≡ w.black → Strode 1 1 w s v s
strode_again w v s h leaves black same = record {
  nodes = refl;
  archive = refl;
  strides = again here h leaves black same;
  few = copies_more 0 1 _ _ _ (omega arith) (copies_none _ _);
}

pub on_err : {X E : Type 0} (P : Type 0) (r : Result X E) → P → OnErr r P
on_err P (Ok x) p = tt
on_err P (Err e) p = p

-- a list that isn't empty
pub some_grey : (hs : List Hash) → hs ≢ [] → 0 < length hs
some_grey [] some = absurd (some refl)
some_grey (h ∷ hs) some = omega arith

-- ---- slices
pub strode_none : (w : Walk) (s : Store) → Strode 0 0 w s w s
strode_none w s = record { nodes = refl; archive = refl; strides = here; few = copies_none _ _ }

-- one after another
pub strode_on : (a b c d : ℕ) (w v u : Walk) (s t x : Store) → Strode a b w s v t → Strode c d v t u x → Strode (a + c) (b + d) w s u x
strode_on a b c d w v u s t x first next =
    let same : finite.get (nodes_of t) ≡ finite.get (nodes_of s) = ap (λ (n : Nodes). finite.get n) first.nodes in
    record {
      nodes = next.nodes ∙ first.nodes;
      archive = next.archive ∙ first.archive;
      strides = strides_on first.strides
          (subst (λ (n : Lookup). Strides n v (finite.get t.writable) c u (finite.get x.writable)) same next.strides);
      few = copies_on b d _ _ (finite.get t.writable) _ first.few
          (subst (λ (n : Lookup). CopiesAtMost d n (finite.get t.writable) (finite.get x.writable)) same next.few);
    }

-- a bound that is higher
pub strode_few : (a b c : ℕ) (w v : Walk) (s t : Store) → b ≤ c → Strode a b w s v t → Strode a c w s v t
strode_few a b c w v s t le x = record {
  nodes = x.nodes;
  archive = x.archive;
  strides = x.strides;
  few = copies_more b c _ _ _ le x.few;
}

pub cut_short : (i n : ℕ) (w v u : Walk) (s t x : Store) → i < n → Strode i i w s v t → Strode 0 1 v t u x → IsCutShort n w s u x
cut_short i n w v u s t x lt first last = record {
  taken = i + 0;
  fewer = omega (arith, lt);
  strode = strode_few (i + 0) (i + 1) n w u s x (omega (arith, lt)) (strode_on i i 0 1 w v u s t x first last);
}

pub rest_on : (s t u : Store) → SameRest s t → SameRest t u → SameRest s u
rest_on s t u a b = (
  (b.0.0 ∙ a.0.0, b.0.1 ∙ a.0.1, b.0.2 ∙ a.0.2, b.0.3 ∙ a.0.3, b.0.4 ∙ a.0.4),
  b.1 ∙ a.1,
  b.2 ∙ a.2,
)

pub drains_none : (w : Walk) (s : Store) → Drains w s w s
drains_none w s = record { taken = 0; copied = 0; strode = strode_none w s }

pub drains_on : (a b : ℕ) (w v u : Walk) (s t x : Store) → Drains w s v t → Strode a b v t u x → Drains w s u x
drains_on a b w v u s t x first next = record {
  taken = first.taken + a;
  copied = first.copied + b;
  strode = strode_on first.taken first.copied a b w v u s t x first.strode next;
}

pub rest_none : (s : Store) → SameRest s s
rest_none s = ((refl, refl, refl, refl, refl), refl, refl)

-- ---- the rule
pub rule_kept : (a b : ℕ) (w v : Walk) (s t : Store) → Strode a b w s v t → KeepsRule w s v t
rule_kept a b w v s t x = record {
  colours = λ c. subst (λ (n : Lookup). Colours n (finite.get t.writable) v) (sym same) (colours_stay nodes w held x.strides c);
  shaded = shaded_still nodes w held x.strides;
  kept = λ h. (
    λ k. subst (λ (n : Lookup). Keeps n v h) (sym same) (kept_stays nodes w held x.strides h k),
    λ k. kept_was nodes w held x.strides h (subst (λ (n : Lookup). Keeps n v h) same k),
  );
  copies = λ h form e. ⊎_elim (λ old. inl old) (λ new. inr new.0) (held_was nodes w held x.strides h form e);
}
  where
    nodes : Lookup
    nodes = finite.get (nodes_of s)

    held : Lookup
    held = finite.get s.writable

    same : finite.get (nodes_of t) ≡ nodes
    same = ap (λ (n : Nodes). finite.get n) x.nodes
