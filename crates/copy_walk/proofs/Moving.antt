-- The rule stays along each kind of move.
use Rattle.std.proofs.Common.{◌≡◌, ◌∷◌, [], ◌⊎◌, ◌↔◌, inl, inr, ⊎_elim, Bool, true, false, List, Option, None, Some}
use Rattle.std.proofs.Common.{Contains, refl, sym, ap, ◌∙◌, subst}
use Rattle.std.proofs.lemmas.Bool.{false≢true}
use Rattle.std.specs.Option.{option_or}
use Rattle.ledger_spec.specs.Bytes.{Bytes, Hash, Lookup}
use Rattle.ledger_spec.specs.Reach.{Reach, root, kid, Stored}
use Rattle.ledger_spec.proofs.shared.ReachLaws.{reach_joins}
use Rattle.copy_walk.specs.Walks.{Walk, shaded, Keeps, Shades, Colours}
use Rattle.copy_walk.specs.Scenes.{Scene, IsOneMap, IsTurning, IsIdle, RuleWhile, Rule}
use Rattle.copy_walk.specs.Moves.{Writes, AddsRoot, Slices, Begins, Swaps, EndsRoots, Move, Section}
use Rattle.copy_walk.specs.Moves.{write, new_root, slice, start, swap, end_roots, fetch, still, also}
use Rattle.copy_walk.proofs.Lists.{in_none, in_first, grey_shaded}
use Rattle.copy_walk.proofs.shared.Lists.{shaded_stays, is_shaded, shaded_from}
use Rattle.copy_walk.proofs.shared.Striding.{one_form, some_not_none, colours_shaded, colours_stay, kept_stays, kept_was, held_stays}
use Rattle.copy_walk.proofs.shared.Striding.{held_was}
use Rattle.copy_walk.proofs.shared.Striding.{shaded_still, kept_held}
use Rattle.copy_walk.proofs.Writing.{turns, keeps_wider, pair_was, pair_form, by_phase, shaded_while, same_while, write_rule}

-- ---- a new root, and roots that end
module _ (s s' : Scene) (nodes : s'.nodes ≡ s.nodes) (written : s'.written ≡ s.written) (old : s'.old ≡ s.old) where
  -- the same stands where it stood
  pub same_one : IsOneMap s → IsOneMap s'
  same_one one q = (λ i. nodes i q) ∙ one q ∙ (λ i. option_or (sym written i q) (sym old i q))

  stood : (q : Hash) → Stored s'.nodes q → Stored s.nodes q
  stood q stored = subst (λ (m : Lookup). Stored m q) nodes stored

  pub same_idle : s'.walk ≡ s.walk → IsIdle s → IsIdle s'
  same_idle same t = record {
    grey = ap (λ (x : Walk). x.grey) same ∙ t.grey;
    black = ap (λ (x : Walk). x.black) same ∙ t.black;
    born = λ q there was. t.born q (subst (λ (m : Lookup). Stored m q) written there) (subst (λ (m : Lookup). Stored m q) old was);
  }

  pub same_copies : (kept : Hash → Type 0) → ((h : Hash) → Stored s.written h → Stored s.old h → kept h) → (h : Hash)
      → Stored s'.written h → Stored s'.old h → kept h
  same_copies kept copies h there was =
      copies h (subst (λ (m : Lookup). Stored m h) written there) (subst (λ (m : Lookup). Stored m h) old was)

module _ (s : Scene) (h : Hash) (s' : Scene) (a : AddsRoot s h s') where
  pub root_turns : Shades s.walk h s'.walk → IsTurning s (Keeps s.nodes s.walk) → IsTurning s' (Keeps s'.nodes s'.walk)
  root_turns shades t = turns s'
      (subst (λ (m : Lookup × Lookup). Colours m.0 m.1 s'.walk) (λ i. (sym nodes i, sym written i))
      (colours_shaded s.nodes s.walk s.written h s'.walk shades t.colours))
      (λ q c stored. ⊎_elim (λ was. shaded_stays s.walk h s'.walk shades q (t.roots q was (stood s s' nodes written old q stored)))
      (λ one. subst (Contains (shaded s'.walk)) (sym one) (is_shaded s.walk h s'.walk shades)) (a.roots q c))
      (same_copies s s' nodes written old (Keeps s'.nodes s'.walk) (λ q there was.
      keeps_wider s.nodes s'.nodes s.walk s'.walk (λ p f e. (λ i. nodes i p) ∙ e) (shaded_stays s.walk h s'.walk shades)
      (t.copies q there was)))
    where
      nodes : s'.nodes ≡ s.nodes
      nodes = ap (λ (x : Scene). x.nodes) a.rest

      written : s'.written ≡ s.written
      written = ap (λ (x : Scene). x.written) a.rest

      old : s'.old ≡ s.old
      old = ap (λ (x : Scene). x.old) a.rest

pub new_root_rule : (s : Scene) (h : Hash) (s' : Scene) → AddsRoot s h s' → Rule s → Rule s'
new_root_rule s h s' a r =
    let nodes : s'.nodes ≡ s.nodes = ap (λ (x : Scene). x.nodes) a.rest in
    let written : s'.written ≡ s.written = ap (λ (x : Scene). x.written) a.rest in
    let old : s'.old ≡ s.old = ap (λ (x : Scene). x.old) a.rest in
    record {
      one_map = same_one s s' nodes written old r.one_map;
      now = by_phase s.turning s'.turning s s' (ap (λ (x : Scene). x.turning) a.rest)
          (λ e t. root_turns s h s' a (shaded_while s.turning s.walk h s'.walk a.walk e) t)
          (λ e t. same_idle s s' nodes written old (same_while s.turning s.walk h s'.walk a.walk e) t) r.now;
    }

pub ends_rule : (s s' : Scene) → EndsRoots s s' → Rule s → Rule s'
ends_rule s s' e r = subst Rule (sym e.rest) fewer
  where
    there : Scene
    there = record s { roots = s'.roots }

    turning : IsTurning s (Keeps s.nodes s.walk) → IsTurning there (Keeps there.nodes there.walk)
    turning t = record {
      colours = t.colours;
      roots = λ q c stored. t.roots q (e.roots q c) stored;
      black = t.black;
      grey = t.grey;
      copies = t.copies;
      closed = t.closed;
    }

    fewer : Rule there
    fewer = record {
      one_map = r.one_map;
      now = by_phase s.turning s.turning s there refl (λ on t. turning t)
          (λ off t. record { grey = t.grey; black = t.black; born = t.born }) r.now;
    }

-- ---- a slice
module _ (s s' : Scene) (l : Slices s s') (r : Rule s) where
  at_turning : (b : Bool) → b ≡ true → RuleWhile b s → IsTurning s (Keeps s.nodes s.walk)
  at_turning true e t = t
  at_turning false e t = absurd (false≢true e)

  was_turning : IsTurning s (Keeps s.nodes s.walk)
  was_turning = at_turning s.turning l.turning r.now

  nodes_same : s'.nodes ≡ s.nodes
  nodes_same = ap (λ (x : Scene). x.nodes) l.rest

  old_still : s'.old ≡ s.old
  old_still = ap (λ (x : Scene). x.old) l.rest

  -- what the writable backend holds is stored
  held_stored : (q : Hash) (form : Bytes) → s'.written q ≡ Some form → s.nodes q ≡ Some form
  held_stored q form e = ⊎_elim
      (λ was. r.one_map q ∙ ap (λ (o : Option Bytes). option_or o (s.old q)) was)
      (λ new. new.1)
      (held_was s.nodes s.walk s.written l.strides q form e)

  one_at : (q : Hash) (o w : Option Bytes) → s'.written q ≡ o → s.written q ≡ w → s.nodes q ≡ option_or o (s.old q)
  one_at q (Some f) w e was = held_stored q f e
  one_at q None None e was = r.one_map q ∙ ap (λ (o : Option Bytes). option_or o (s.old q)) was
  one_at q None (Some f) e was = some_not_none (s'.written q) f (held_stays s.nodes s.walk s.written l.strides q f was) e

  pub slice_one : IsOneMap s'
  slice_one q =
      (λ i. nodes_same i q) ∙ one_at q (s'.written q) (s.written q) refl refl
      ∙ (λ i. option_or (s'.written q) (sym old_still i q))

  keeps_there : (q : Hash) → Keeps s.nodes s.walk q → Keeps s'.nodes s'.walk q
  keeps_there q k =
      subst (λ (m : Lookup). Keeps m s'.walk q) (sym nodes_same) (kept_stays s.nodes s.walk s.written l.strides q k)

  stored_there : (q : Hash) → Stored s'.nodes q → Stored s.nodes q
  stored_there q stored = subst (λ (m : Lookup). Stored m q) nodes_same stored

  colours_there : Colours s'.nodes s'.written s'.walk
  colours_there =
      subst (λ (m : Lookup). Colours m s'.written s'.walk) (sym nodes_same)
      (colours_stay s.nodes s.walk s.written l.strides was_turning.colours)

  copies_there : (q : Hash) → Stored s'.written q → Stored s'.old q → Keeps s'.nodes s'.walk q
  copies_there q there was = keeps_there q (⊎_elim
      (λ before. was_turning.copies q (there.0, before) (subst (λ (m : Lookup). Stored m q) old_still was))
      (λ new. new.0)
      (held_was s.nodes s.walk s.written l.strides q there.0 there.1))

  pub slice_turns : IsTurning s' (Keeps s'.nodes s'.walk)
  slice_turns = turns s' colours_there
      (λ q c stored. shaded_still s.nodes s.walk s.written l.strides q
      (was_turning.roots q (subst (λ (hs : List Hash). Contains hs q) (ap (λ (x : Scene). x.roots) l.rest) c) (stored_there q stored))
      (stored_there q stored)) copies_there

  pub slice_rule : Rule s'
  slice_rule = record {
    one_map = slice_one;
    now = subst (λ b. RuleWhile b s') (sym (ap (λ (x : Scene). x.turning) l.rest ∙ l.turning)) slice_turns;
  }

  -- what is kept is what was
  pub slice_kept : (q : Hash) → Keeps s.nodes s.walk q ↔ Keeps s'.nodes s'.walk q
  slice_kept q = (
    keeps_there q,
    λ k. kept_was s.nodes s.walk s.written l.strides q (subst (λ (m : Lookup). Keeps m s'.walk q) nodes_same k),
  )

-- ---- the begin of a rotation
at_idle : (s : Scene) (b : Bool) → b ≡ false → RuleWhile b s → IsIdle s
at_idle s true e t = absurd (false≢true (sym e))
at_idle s false e t = t

pub begin_rule : (s s' : Scene) → Begins s s' → Rule s → Rule s'
begin_rule s s' b r = record {
  one_map = same_one s s' nodes written old r.one_map;
  now = subst (λ x. RuleWhile x s') (sym b.turning) (turns s'
      (record {
        copied = λ h c. absurd (none h c);
        named = λ h k form c is names stored. absurd (none h c);
      })
      (λ h c stored. grey_shaded s'.walk h ((b.grey h).1 c))
      (λ h there was. absurd (was_idle.born h (subst (λ (m : Lookup). Stored m h) written there)
      (subst (λ (m : Lookup). Stored m h) old was))));
}
  where
    was_idle : IsIdle s
    was_idle = at_idle s s.turning b.idle r.now

    nodes : s'.nodes ≡ s.nodes
    nodes = ap (λ (x : Scene). x.nodes) b.rest

    written : s'.written ≡ s.written
    written = ap (λ (x : Scene). x.written) b.rest

    old : s'.old ≡ s.old
    old = ap (λ (x : Scene). x.old) b.rest

    none : (h : Hash) → Contains s'.walk.black h → ⊥
    none h c = in_none h (subst (λ (hs : List Hash). Contains hs h) b.black c)

-- ---- a swap
module _ (s s' : Scene) (w : Swaps s s') (r : Rule s) where
  turned : IsTurning s (Keeps s.nodes s.walk)
  turned = at_turning' s.turning w.turning r.now
    where
      at_turning' : (b : Bool) → b ≡ true → RuleWhile b s → IsTurning s (Keeps s.nodes s.walk)
      at_turning' true e t = t
      at_turning' false e t = absurd (false≢true e)

  pub swap_rule : Rule s'
  swap_rule = record {
    one_map = λ q. (λ i. w.nodes i q) ∙ (λ i. sym w.old i q) ∙ sym (ap (λ (o : Option Bytes). option_or o (s'.old q)) (w.written q));
    now = subst (λ b. RuleWhile b s') (sym w.over) (record {
      grey = ap (λ (x : Walk). x.grey) w.walk;
      black = ap (λ (x : Walk). x.black) w.walk;
      born = λ q there was. some_not_none (s'.written q) there.0 there.1 (w.written q);
    });
  }

  -- no form is new
  pub swap_fewer : (q : Hash) (form : Bytes) → s'.nodes q ≡ Some form → s.nodes q ≡ Some form
  swap_fewer q form e =
      r.one_map q ∙ ap (λ (o : Option Bytes). option_or o (s.old q)) ((λ i. sym w.nodes i q) ∙ e)

  -- all that is kept stays
  pub swap_stays : (q : Hash) → Keeps s.nodes s.walk q → s'.nodes q ≡ s.nodes q
  swap_stays q k = (λ i. w.nodes i q) ∙ kept_held s.nodes s.written s.walk turned.colours w.drained q k

  -- and nothing else but what was born in the epoch
  pub swap_only : (q : Hash) → Stored s'.nodes q → Keeps s.nodes s.walk q ⊎ (s.old q ≡ None)
  swap_only q there = at (s.old q) refl
    where
      written : Stored s.written q
      written = (there.0, (λ i. sym w.nodes i q) ∙ there.1)

      at : (o : Option Bytes) → s.old q ≡ o → Keeps s.nodes s.walk q ⊎ (s.old q ≡ None)
      at None e = inr e
      at (Some f) e = inl (turned.copies q written (f, e))

-- all that the roots reach is kept
pub roots_kept : (s : Scene) → s.turning ≡ true → Rule s → (q : Hash) → Reach s.nodes s.roots q → Keeps s.nodes s.walk q
roots_kept s on r q reach = reach_joins (λ h c stored. root (t.roots h c stored) stored) reach
  where
    at : (b : Bool) → b ≡ true → RuleWhile b s → IsTurning s (Keeps s.nodes s.walk)
    at true e x = x
    at false e x = absurd (false≢true e)

    t : IsTurning s (Keeps s.nodes s.walk)
    t = at s.turning on r.now

-- ---- what is kept besides
-- what one hash more reaches in what is stored, where little more is stored
module _ (m m' : Lookup) (w w' : Walk) (h : Hash) (was : (q : Hash) → Stored m' q → (q ≡ h) ⊎ Stored m q)
    (same : (q : Hash) (f f' : Bytes) → m q ≡ Some f → m' q ≡ Some f' → f ≡ f') (shades : Shades w h w') where
  -- a hash that is stored now: this one, or it was shaded and stored
  told_from : (q : Hash) → Contains (shaded w') q → Stored m' q → Keeps m w q ⊎ Reach m' (h ∷ []) q
  told_from q c stored = ⊎_elim
      (λ old. ⊎_elim (λ this. inr (root (subst (Contains (h ∷ [])) (sym this) (in_first h [])) stored)) (λ before. inl (root old before))
      (was q stored))
      (λ one. inr (root (subst (Contains (h ∷ [])) (sym one) (in_first h [])) stored)) (shaded_from w h w' shades q c)

  reach_was : {q : Hash} → Keeps m w q → Stored m q
  reach_was (root told stored) = stored
  reach_was (kid reached is named stored) = stored

  pub kept_from : {q : Hash} → Keeps m' w' q → Keeps m w q ⊎ Reach m' (h ∷ []) q
  kept_from {q} (root told stored) = told_from q told stored
  kept_from (kid {h = p} {k = k} {form = form} reached is named stored) = ⊎_elim
      (λ kept. ⊎_elim (λ this. inr (root (subst (Contains (h ∷ [])) (sym this) (in_first h [])) stored))
      (λ before. inl (kid kept ((reach_was kept).1 ∙ ap Some (same p (reach_was kept).0 form (reach_was kept).1 is)) named before))
      (was k stored))
      (λ below. inr (kid below is named stored)) (kept_from reached)

pub write_more : (s s' : Scene) (h : Hash) (form : Bytes) → s.turning ≡ true → Writes s h form s' → (q : Hash) → Keeps s'.nodes s'.walk q
    → Keeps s.nodes s.walk q ⊎ Reach s'.nodes (h ∷ []) q
write_more s s' h form on w q kept =
    kept_from s.nodes s'.nodes s.walk s'.walk h (pair_was s.nodes h form s'.nodes w.new w.nodes)
    (pair_form s.nodes h form s'.nodes w.new w.nodes) (shaded_while s.turning s.walk h s'.walk w.walk on) kept

pub root_more : (s s' : Scene) (h : Hash) → s.turning ≡ true → AddsRoot s h s' → (q : Hash) → Keeps s'.nodes s'.walk q
    → Keeps s.nodes s.walk q ⊎ Reach s'.nodes (h ∷ []) q
root_more s s' h on a q kept =
    let nodes : s'.nodes ≡ s.nodes = ap (λ (x : Scene). x.nodes) a.rest in
    kept_from s.nodes s'.nodes s.walk s'.walk h (λ p stored. inr (subst (λ (m : Lookup). Stored m p) nodes stored))
    (λ p f f' e e'. one_form (s.nodes p) f f' e ((λ i. sym nodes i p) ∙ e')) (shaded_while s.turning s.walk h s'.walk a.walk on) kept

-- ---- sections
pub move_rule : (s s' : Scene) → Move s s' → Rule s → Rule s'
move_rule s s' (write h form w) r = write_rule s h form s' w r
move_rule s s' (new_root h a) r = new_root_rule s h s' a r
move_rule s s' (slice l) r = slice_rule s s' l r
move_rule s s' (start b) r = begin_rule s s' b r
move_rule s s' (swap w) r = swap_rule s s' w r
move_rule s s' (end_roots e) r = ends_rule s s' e r
move_rule s s' (fetch same) r = subst Rule (sym same) r

pub section_rule : {s s' : Scene} → Section s s' → Rule s → Rule s'
section_rule still r = r
section_rule (also {t = t} {u = u} before move) r = move_rule t u move (section_rule before r)
