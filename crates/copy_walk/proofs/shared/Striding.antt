-- What strides keep: the colours, what is kept, and that nothing but what is kept is copied. For proofs of other crates.
use Rattle.std.proofs.Common.{◌≡◌, ◌⊎◌, inl, inr, ⊎_elim, ℕ, zero, suc, ◌+◌, List, [], Option, None, Some, Contains, sym, ap, ◌∙◌, subst}
use Rattle.std.proofs.Common.{arith}
use Rattle.ledger_spec.specs.Bytes.{Bytes, Hash, Lookup}
use Rattle.ledger_spec.specs.Reach.{root, kid, Stored, kids}
use Rattle.ledger_spec.proofs.shared.ReachLaws.{reach_joins}
use Rattle.copy_walk.specs.Walks.{Walk, shaded, Keeps, Shades, HasToo, Colours}
use Rattle.copy_walk.specs.Strides.{Strides, Copies, Leaves, here, copied, named, again, absent, found}
use Rattle.copy_walk.proofs.Lists.{in_none, grey_shaded, black_shaded, shaded_cases, grey_was, was_grey, still_grey}
use Rattle.copy_walk.proofs.shared.Lists.{shaded_stays, shaded_from}

-- under one hash stands one form
pub one_form : (o : Option Bytes) (a b : Bytes) → o ≡ Some a → o ≡ Some b → a ≡ b
one_form None a b e f = cc
one_form (Some x) a b e f = cc

pub some_not_none : {X : Type 0} (o : Option Bytes) (a : Bytes) → o ≡ Some a → o ≡ None → X
some_not_none None a e f = cc
some_not_none (Some x) a e f = cc

-- a walk that sees what another one does, where it is stored, keeps all that that one does
pub keeps_more : (nodes : Lookup) (v w : Walk) → ((q : Hash) → Contains (shaded v) q → Stored nodes q → Keeps nodes w q)
    → (q : Hash) → Keeps nodes v q → Keeps nodes w q
keeps_more nodes v w all q r = reach_joins (λ h c stored. all h c stored) r

-- ---- one stride
module _ (nodes : Lookup) (w : Walk) (h : Hash) (v : Walk) (leaves : Leaves w h v) (same : v.black ≡ w.black) where
  still_black : (q : Hash) → Contains w.black q → Contains v.black q
  still_black q c = subst (λ (hs : List Hash). Contains hs q) (sym same) c

  was_black : (q : Hash) → Contains v.black q → Contains w.black q
  was_black q c = subst (λ (hs : List Hash). Contains hs q) same c

  -- what is shaded still was
  pub left_was : (q : Hash) → Contains (shaded v) q → Contains (shaded w) q
  left_was q c =
      ⊎_elim (λ grey. grey_shaded w q (was_grey w h v leaves q grey)) (λ black. black_shaded w q (was_black q black)) (shaded_cases v q c)

  -- but for the hash that leaves, where it isn't shaded otherwise
  pub left_stays : (q : Hash) → Contains (shaded w) q → (q ≡ h) ⊎ Contains (shaded v) q
  left_stays q c =
      ⊎_elim
      (λ grey. ⊎_elim (λ one. inl one) (λ more. inr (grey_shaded v q more)) (still_grey w h v leaves q grey))
      (λ black. inr (black_shaded v q (still_black q black)))
      (shaded_cases w q c)

  -- a black hash was taken again: all that was shaded is
  pub again_stays : Contains w.black h → (q : Hash) → Contains (shaded w) q → Contains (shaded v) q
  again_stays black q c =
      ⊎_elim (λ one. subst (Contains (shaded v)) (sym one) (black_shaded v h (still_black h black))) (λ more. more) (left_stays q c)

  -- one that isn't stored: all that was shaded and is stored is
  pub absent_stays : nodes h ≡ None → (q : Hash) → Contains (shaded w) q → Stored nodes q → Contains (shaded v) q
  absent_stays gone q c stored =
      ⊎_elim (λ one. some_not_none (nodes q) stored.0 stored.1 (ap nodes one ∙ gone)) (λ more. more) (left_stays q c)

  pub colours_left : (held : Lookup) → ((q : Hash) → Contains (shaded w) q → Stored nodes q → Contains (shaded v) q)
      → Colours nodes held w → Colours nodes held v
  colours_left held stays c = record {
    copied = λ q black. c.copied q (was_black q black);
    named = λ q k form black is names stored. stays k (c.named q k form (was_black q black) is names stored) stored;
  }

module _ (nodes : Lookup) (w : Walk) (h : Hash) (v : Walk) (leaves : Leaves w h v) (too : HasToo v.black w.black h) where
  pub found_was : (q : Hash) → Contains (shaded v) q → Contains (shaded w) q
  found_was q c =
      ⊎_elim
      (λ grey. grey_shaded w q (was_grey w h v leaves q grey))
      (λ black. ⊎_elim (λ old. black_shaded w q old)
      (λ one. subst (Contains (shaded w)) (sym one) (grey_shaded w h (grey_was w h v leaves))) ((too q).0 black))
      (shaded_cases v q c)

  pub found_stays : (q : Hash) → Contains (shaded w) q → Contains (shaded v) q
  found_stays q c =
      ⊎_elim
      (λ grey. ⊎_elim (λ one. black_shaded v q ((too q).1 (inr one))) (λ more. grey_shaded v q more) (still_grey w h v leaves q grey))
      (λ black. black_shaded v q ((too q).1 (inl black)))
      (shaded_cases w q c)

  -- its form was copied, and its kids are shaded
  pub colours_found : (held : Lookup) (form : Bytes) → nodes h ≡ Some form → held h ≡ Some form
      → ((k : Hash) → Contains (kids form) k → Contains (shaded w) k) → Colours nodes held w → Colours nodes held v
  colours_found held form is there all c = record {
    copied = λ q black. ⊎_elim (λ old. c.copied q old) (λ one. (form, ap nodes one ∙ is, ap held one ∙ there)) ((too q).0 black);
    named = λ q k f black stands names stored. found_stays k (⊎_elim
        (λ old. c.named q k f old stands names stored)
        (λ one. all k (subst (λ (x : Bytes). Contains (kids x) k) (one_form (nodes q) f form stands (ap nodes one ∙ is)) names))
        ((too q).0 black));
  }

-- a copy
pub colours_copied : (nodes : Lookup) (w : Walk) (held held' : Lookup) (h : Hash) → Copies nodes h held held' → Colours nodes held w
    → Colours nodes held' w
colours_copied nodes w held held' h copies c = record {
  copied = λ q black. let was = c.copied q black in (was.0, was.1, copies.kept q was.0 was.2);
  named = c.named;
}

-- one hash more is shaded
pub colours_shaded : (nodes : Lookup) (w : Walk) (held : Lookup) (k : Hash) (v : Walk) → Shades w k v → Colours nodes held w
    → Colours nodes held v
colours_shaded nodes w held k v s c = record {
  copied = λ q black. c.copied q (subst (λ (hs : List Hash). Contains hs q) s.black black);
  named = λ q p form black is names stored.
      shaded_stays w k v s p (c.named q p form (subst (λ (hs : List Hash). Contains hs q) s.black black) is names stored);
}

-- ---- all strides
module _ (nodes : Lookup) (w : Walk) (held : Lookup) where
  pub colours_stay : {n : ℕ} {v : Walk} {m : Lookup} → Strides nodes w held n v m → Colours nodes held w → Colours nodes m v
  colours_stay here c = c
  colours_stay (copied {v = v} {m = m} {m' = m'} s h grey copies) c = colours_copied nodes v m m' h copies (colours_stay s c)
  colours_stay (named {v = v} {v' = v'} {m = m} s h k form grey is names shades) c =
      colours_shaded nodes v m k v' shades (colours_stay s c)
  colours_stay (again {v = v} {v' = v'} {m = m} s h leaves black same) c =
      colours_left nodes v h v' leaves same m (λ q a stored. again_stays nodes v h v' leaves same black q a) (colours_stay s c)
  colours_stay (absent {v = v} {v' = v'} {m = m} s h leaves gone same) c =
      colours_left nodes v h v' leaves same m (absent_stays nodes v h v' leaves same gone) (colours_stay s c)
  colours_stay (found {v = v} {v' = v'} {m = m} s h form leaves is there all too) c =
      colours_found nodes v h v' leaves too m form is there all (colours_stay s c)

  -- what was kept is kept
  pub kept_stays : {n : ℕ} {v : Walk} {m : Lookup} → Strides nodes w held n v m → (q : Hash) → Keeps nodes w q → Keeps nodes v q
  kept_stays here q r = r
  kept_stays (copied s h grey copies) q r = kept_stays s q r
  kept_stays (named {v = v} {v' = v'} s h k form grey is names shades) q r =
      keeps_more nodes v v' (λ p c stored. root (shaded_stays v k v' shades p c) stored) q (kept_stays s q r)
  kept_stays (again {v = v} {v' = v'} s h leaves black same) q r =
      keeps_more nodes v v' (λ p c stored. root (again_stays nodes v h v' leaves same black p c) stored) q (kept_stays s q r)
  kept_stays (absent {v = v} {v' = v'} s h leaves gone same) q r =
      keeps_more nodes v v' (λ p c stored. root (absent_stays nodes v h v' leaves same gone p c stored) stored) q (kept_stays s q r)
  kept_stays (found {v = v} {v' = v'} s h form leaves is there all too) q r =
      keeps_more nodes v v' (λ p c stored. root (found_stays nodes v h v' leaves too p c) stored) q (kept_stays s q r)

  -- a grey hash that is stored is kept, so what it names is
  kid_kept : (v : Walk) (h k : Hash) (form : Bytes) → Contains v.grey h → nodes h ≡ Some form → Contains (kids form) k → Stored nodes k
      → Keeps nodes v k
  kid_kept v h k form grey is names stored = kid (root (grey_shaded v h grey) (form, is)) is names stored

  -- and nothing else is kept
  pub kept_was : {n : ℕ} {v : Walk} {m : Lookup} → Strides nodes w held n v m → (q : Hash) → Keeps nodes v q → Keeps nodes w q
  kept_was here q r = r
  kept_was (copied s h grey copies) q r = kept_was s q r
  kept_was (named {v = v} {v' = v'} s h k form grey is names shades) q r =
      kept_was s q (keeps_more nodes v' v (λ p c stored. ⊎_elim (λ old. root old stored)
      (λ one. kid_kept v h p form grey is (subst (Contains (kids form)) (sym one) names) stored) (shaded_from v k v' shades p c)) q r)
  kept_was (again {v = v} {v' = v'} s h leaves black same) q r =
      kept_was s q (keeps_more nodes v' v (λ p c stored. root (left_was nodes v h v' leaves same p c) stored) q r)
  kept_was (absent {v = v} {v' = v'} s h leaves gone same) q r =
      kept_was s q (keeps_more nodes v' v (λ p c stored. root (left_was nodes v h v' leaves same p c) stored) q r)
  kept_was (found {v = v} {v' = v'} s h form leaves is there all too) q r =
      kept_was s q (keeps_more nodes v' v (λ p c stored. root (found_was nodes v h v' leaves too p c) stored) q r)

  -- the writable backend holds what it held
  pub held_stays : {n : ℕ} {v : Walk} {m : Lookup} → Strides nodes w held n v m → (q : Hash) (form : Bytes) → held q ≡ Some form
      → m q ≡ Some form
  held_stays here q form e = e
  held_stays (copied s h grey copies) q form e = copies.kept q form (held_stays s q form e)
  held_stays (named s h k f grey is names shades) q form e = held_stays s q form e
  held_stays (again s h leaves black same) q form e = held_stays s q form e
  held_stays (absent s h leaves gone same) q form e = held_stays s q form e
  held_stays (found s h f leaves is there all too) q form e = held_stays s q form e

  -- and what it holds besides is kept
  pub held_was : {n : ℕ} {v : Walk} {m : Lookup} → Strides nodes w held n v m → (q : Hash) (form : Bytes) → m q ≡ Some form
      → (held q ≡ Some form) ⊎ (Keeps nodes w q × (nodes q ≡ Some form))
  held_was here q form e = inl e
  held_was (copied {v = v} s h grey copies) q form e = ⊎_elim (λ old. held_was s q form old)
      (λ new. inr (
        kept_was s q (root (subst (Contains (shaded v)) (sym new.0) (grey_shaded v h grey)) (form, new.1)),
        new.1,
      )) (copies.only q form e)
  held_was (named s h k f grey is names shades) q form e = held_was s q form e
  held_was (again s h leaves black same) q form e = held_was s q form e
  held_was (absent s h leaves gone same) q form e = held_was s q form e
  held_was (found s h f leaves is there all too) q form e = held_was s q form e

  -- a black hash stays black
  pub black_stays : {n : ℕ} {v : Walk} {m : Lookup} → Strides nodes w held n v m → (q : Hash) → Contains w.black q → Contains v.black q
  black_stays here q c = c
  black_stays (copied s h grey copies) q c = black_stays s q c
  black_stays (named s h k f grey is names shades) q c = subst (λ (hs : List Hash). Contains hs q) (sym shades.black) (black_stays s q c)
  black_stays (again s h leaves black same) q c = subst (λ (hs : List Hash). Contains hs q) (sym same) (black_stays s q c)
  black_stays (absent s h leaves gone same) q c = subst (λ (hs : List Hash). Contains hs q) (sym same) (black_stays s q c)
  black_stays (found s h f leaves is there all too) q c = (too q).1 (inl (black_stays s q c))

  -- what was shaded and is stored is shaded
  pub shaded_still : {n : ℕ} {v : Walk} {m : Lookup} → Strides nodes w held n v m → (q : Hash) → Contains (shaded w) q → Stored nodes q
      → Contains (shaded v) q
  shaded_still here q c stored = c
  shaded_still (copied s h grey copies) q c stored = shaded_still s q c stored
  shaded_still (named {v = v} {v' = v'} s h k form grey is names shades) q c stored =
      shaded_stays v k v' shades q (shaded_still s q c stored)
  shaded_still (again {v = v} {v' = v'} s h leaves black same) q c stored =
      again_stays nodes v h v' leaves same black q (shaded_still s q c stored)
  shaded_still (absent {v = v} {v' = v'} s h leaves gone same) q c stored =
      absent_stays nodes v h v' leaves same gone q (shaded_still s q c stored) stored
  shaded_still (found {v = v} {v' = v'} s h form leaves is there all too) q c stored =
      found_stays nodes v h v' leaves too q (shaded_still s q c stored)

-- where nothing is grey all that is kept is black
module _ (nodes held : Lookup) (w : Walk) (c : Colours nodes held w) (done : w.grey ≡ []) where
  shaded_black : (q : Hash) → Contains (shaded w) q → Contains w.black q
  shaded_black q is = ⊎_elim
      (λ grey. absurd (in_none q (subst (λ (hs : List Hash). Contains hs q) done grey)))
      (λ black. black) (shaded_cases w q is)

  pub kept_black : {q : Hash} → Keeps nodes w q → Contains w.black q
  kept_black {q} (root told stored) = shaded_black q told
  kept_black (kid {h = h} {k = k} {form = form} reached is names stored) =
      shaded_black k (c.named h k form (kept_black reached) is names stored)

  -- and so it's in the writable backend
  pub kept_held : (q : Hash) → Keeps nodes w q → held q ≡ nodes q
  kept_held q k = let was = c.copied q (kept_black k) in was.2 ∙ sym was.1

-- one more is counted
counted : {nodes : Lookup} {w v : Walk} {held a : Lookup} (n m : ℕ) → Strides nodes w held (suc (n + m)) v a
    → Strides nodes w held (n + suc m) v a
counted {nodes} {w} {v} {held} {a} n m s =
    let same : suc (n + m) ≡ n + suc m = omega arith in
    subst (λ k. Strides nodes w held k v a) same s

-- strides, and then more
pub strides_on : {nodes : Lookup} {w : Walk} {held : Lookup} {n : ℕ} {u : Walk} {a : Lookup} {m : ℕ} {v : Walk} {b : Lookup}
    → Strides nodes w held n u a → Strides nodes u a m v b → Strides nodes w held (n + m) v b
strides_on {nodes} {w} {held} {n} {u} {a} first here =
    let same : n ≡ n + zero = omega arith in
    subst (λ k. Strides nodes w held k u a) same first
strides_on first (copied s h grey copies) = copied (strides_on first s) h grey copies
strides_on first (named s h k f grey is names shades) = named (strides_on first s) h k f grey is names shades
strides_on {n = n} first (again {n = m} s h leaves black same) = counted n m (again (strides_on first s) h leaves black same)
strides_on {n = n} first (absent {n = m} s h leaves gone same) = counted n m (absent (strides_on first s) h leaves gone same)
strides_on {n = n} first (found {n = m} s h f leaves is there all too) = counted n m (found (strides_on first s) h f leaves is there all too)
