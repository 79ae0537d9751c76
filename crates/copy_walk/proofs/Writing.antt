-- The rule of a rotation stays where a form is written.
use Rattle.std.proofs.Common.{◌≡◌, ◌⊎◌, inl, inr, ⊎_elim, Bool, true, false, List, Option, None, Some}
use Rattle.std.proofs.Common.{Contains, refl, sym, ap, ◌∙◌, subst}
use Rattle.std.proofs.lemmas.Bool.{false≢true}
use Rattle.std.specs.Option.{option_or}
use Rattle.ledger_spec.specs.Bytes.{Bytes, Hash, Lookup}
use Rattle.ledger_spec.specs.Reach.{root, kid, Stored}
use Rattle.copy_walk.specs.Walks.{Walk, shaded, Keeps, Shades, Colours}
use Rattle.copy_walk.specs.Scenes.{Scene, IsOneMap, IsTurning, IsIdle, RuleWhile, Rule}
use Rattle.copy_walk.specs.Moves.{ShadesWhile, HasPair, Writes}
use Rattle.copy_walk.proofs.Lists.{grey_shaded, black_shaded}
use Rattle.copy_walk.proofs.shared.Lists.{shaded_stays, is_shaded}
use Rattle.copy_walk.proofs.shared.Striding.{one_form, some_not_none}

-- where what is kept is what the shaded hashes reach, little is left to say of it
pub turns : (s : Scene) → Colours s.nodes s.written s.walk
    → ((h : Hash) → Contains s.roots h → Stored s.nodes h → Contains (shaded s.walk) h)
    → ((h : Hash) → Stored s.written h → Stored s.old h → Keeps s.nodes s.walk h) → IsTurning s (Keeps s.nodes s.walk)
turns s colours roots copies = record {
  colours = colours;
  roots = roots;
  black = λ h c. root (black_shaded s.walk h c) (let was = colours.copied h c in (was.0, was.1));
  grey = λ h c stored. root (grey_shaded s.walk h c) stored;
  copies = copies;
  closed = λ h k form kept is names stored. kid kept is names stored;
}

-- what was stored still is, as it was
abbrev Grows : Lookup → Lookup → Type 0
Grows m n = (h : Hash) (form : Bytes) → m h ≡ Some form → n h ≡ Some form

-- what is kept by a walk is kept as more is stored, by one that has shaded more
pub keeps_wider : (m n : Lookup) (v w : Walk) → Grows m n → ((q : Hash) → Contains (shaded v) q → Contains (shaded w) q) → {h : Hash}
    → Keeps m v h → Keeps n w h
keeps_wider m n v w up into {h} (root named stored) = root (into h named) (stored.0, up h stored.0 stored.1)
keeps_wider m n v w up into {h} (kid reached form named stored) =
    kid (keeps_wider m n v w up into reached) (up _ _ form) named (stored.0, up h stored.0 stored.1)

-- ---- a write
module _ (m : Lookup) (h : Hash) (form : Bytes) (m' : Lookup) (new : m h ≡ None) (pair : HasPair m h form m') where
  pub pair_grows : Grows m m'
  pair_grows q f e = ⊎_elim (λ one. some_not_none (m q) f e (ap m one ∙ new)) (λ same. same ∙ e) (pair.others q)

  pub pair_was : (q : Hash) → Stored m' q → (q ≡ h) ⊎ Stored m q
  pair_was q stored = ⊎_elim (λ one. inl one) (λ same. inr (stored.0, sym same ∙ stored.1)) (pair.others q)

  pub pair_form : (q : Hash) (f f' : Bytes) → m q ≡ Some f → m' q ≡ Some f' → f ≡ f'
  pair_form q f f' e e' = one_form (m' q) f f' (pair_grows q f e) e'

-- neither backend holds what isn't stored
unheld : (w o : Option Bytes) → option_or w o ≡ None → (w ≡ None) × (o ≡ None)
unheld None o e = (refl, e)
unheld (Some f) o e = cc

module _ (s : Scene) (h : Hash) (form : Bytes) (s' : Scene) (w : Writes s h form s') (one : IsOneMap s) where
  none : (s.written h ≡ None) × (s.old h ≡ None)
  none = unheld (s.written h) (s.old h) (sym (one h) ∙ w.new)

  old_same : s'.old ≡ s.old
  old_same = ap (λ (x : Scene). x.old) w.rest

  pub write_one : IsOneMap s'
  write_one q = ⊎_elim
      (λ this. ap s'.nodes this ∙ w.nodes.this ∙ sym (ap (λ (o : Option Bytes). option_or o (s'.old h)) w.written.this)
      ∙ (λ i. option_or (s'.written (sym this i)) (s'.old (sym this i))))
      (λ same. ⊎_elim
      (λ this. ap s'.nodes this ∙ w.nodes.this ∙ sym (ap (λ (o : Option Bytes). option_or o (s'.old h)) w.written.this)
      ∙ (λ i. option_or (s'.written (sym this i)) (s'.old (sym this i))))
      (λ still. same ∙ one q ∙ (λ i. option_or (sym still i) (sym old_same i q)))
      (w.written.others q))
      (w.nodes.others q)

  -- what stands in both backends did so before
  both_were : (q : Hash) → Stored s'.written q → Stored s'.old q → Stored s.written q × Stored s.old q
  both_were q there old =
      let was : Stored s.old q = (old.0, sym (ap (λ (m : Lookup). m q) old_same) ∙ old.1) in
      ⊎_elim (λ this. some_not_none (s.old q) was.0 was.1 (ap s.old this ∙ none.1)) (λ before. (before, was))
      (pair_was s.written h form s'.written none.0 w.written q there)

  pub write_turns : Shades s.walk h s'.walk → IsTurning s (Keeps s.nodes s.walk) → IsTurning s' (Keeps s'.nodes s'.walk)
  write_turns shades t = turns s' (record {
    copied = λ q black.
        let was = t.colours.copied q (was_black q black) in (
          was.0,
          pair_grows s.nodes h form s'.nodes w.new w.nodes q was.0 was.1,
          pair_grows s.written h form s'.written none.0 w.written q was.0 was.2,
        );
    named = λ q k f black is names stored.
        let was = t.colours.copied q (was_black q black) in
        let same : was.0 ≡ f = pair_form s.nodes h form s'.nodes w.new w.nodes q was.0 f was.1 is in
        ⊎_elim (λ this. subst (Contains (shaded s'.walk)) (sym this) (is_shaded s.walk h s'.walk shades))
        (λ before. shaded_stays s.walk h s'.walk shades k
        (t.colours.named q k f (was_black q black) (was.1 ∙ ap Some same) names before))
        (pair_was s.nodes h form s'.nodes w.new w.nodes k stored);
  })
      (λ q c stored. ⊎_elim (λ this. subst (Contains (shaded s'.walk)) (sym this) (is_shaded s.walk h s'.walk shades))
      (λ before. shaded_stays s.walk h s'.walk shades q
      (t.roots q (subst (λ (hs : List Hash). Contains hs q) (ap (λ (x : Scene). x.roots) w.rest) c) before))
      (pair_was s.nodes h form s'.nodes w.new w.nodes q stored))
      (λ q there old. let were = both_were q there old in
      keeps_wider s.nodes s'.nodes s.walk s'.walk (pair_grows s.nodes h form s'.nodes w.new w.nodes)
      (shaded_stays s.walk h s'.walk shades) (t.copies q were.0 were.1))
    where
      was_black : (q : Hash) → Contains s'.walk.black q → Contains s.walk.black q
      was_black q c = subst (λ (hs : List Hash). Contains hs q) shades.black c

  pub write_idle : s'.walk ≡ s.walk → IsIdle s → IsIdle s'
  write_idle same t = record {
    grey = ap (λ (x : Walk). x.grey) same ∙ t.grey;
    black = ap (λ (x : Walk). x.black) same ∙ t.black;
    born = λ q there old. let were = both_were q there old in t.born q were.0 were.1;
  }

-- by whether a rotation is under way
pub by_phase : (b b' : Bool) (s s' : Scene) → b' ≡ b → (b ≡ true → RuleWhile true s → RuleWhile true s')
    → (b ≡ false → RuleWhile false s → RuleWhile false s') → RuleWhile b s → RuleWhile b' s'
by_phase true b' s s' same turning idle t = subst (λ x. RuleWhile x s') (sym same) (turning refl t)
by_phase false b' s s' same turning idle t = subst (λ x. RuleWhile x s') (sym same) (idle refl t)

pub shaded_while : (b : Bool) (w : Walk) (h : Hash) (w' : Walk) → ShadesWhile b w h w' → b ≡ true → Shades w h w'
shaded_while true w h w' s e = s
shaded_while false w h w' s e = absurd (false≢true e)

pub same_while : (b : Bool) (w : Walk) (h : Hash) (w' : Walk) → ShadesWhile b w h w' → b ≡ false → w' ≡ w
same_while true w h w' s e = absurd (false≢true (sym e))
same_while false w h w' s e = s

pub write_rule : (s : Scene) (h : Hash) (form : Bytes) (s' : Scene) → Writes s h form s' → Rule s → Rule s'
write_rule s h form s' w r = record {
  one_map = write_one s h form s' w r.one_map;
  now = by_phase s.turning s'.turning s s' (ap (λ (x : Scene). x.turning) w.rest)
      (λ e t. write_turns s h form s' w r.one_map (shaded_while s.turning s.walk h s'.walk w.walk e) t)
      (λ e t. write_idle s h form s' w r.one_map (same_while s.turning s.walk h s'.walk w.walk e) t) r.now;
}
