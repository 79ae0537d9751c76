-- the hash is pushed onto what was told, and the walk takes it
use Rattle.std.proofs.Common.{◌≡◌, ◌↔◌, ◌⊎◌, ◌++◌, ◌∷◌, [], List, Contains, sym, ap, subst, rules}
use Rattle.ledger_spec.specs.Bytes.{Hash}
use Rattle.copy_walk.specs.Walks.{Walk, Shades}
use Rattle.online_rotate.specs.Rotators.{Turning}
use Rattle.online_rotate.proofs.Rotating.{walk_is, told_more}
use Rattle.online_rotate.proofs.rotator.Rotator.shade.Goals as goal

pub returns-clause-told : goal.returns-clause-told
returns-clause-told c turning =
    let all : c.push.new.self.items ≡ c.self.inside.told.items ++ c.args.h.now ∷ [] = search rules in
    let was : c.self.inside.told.items ≡ c.args.self.now.shaded = ap (λ (t : Turning). t.shaded) c.self.view_is in
    let same : c.args.self.now.walk ≡ c.in-Some.walk =
    walk_is c.self.inside.walk c.in-Some.walk _ _ _ c.args.self.now c.in-Some.is c.self.view_is in
    record {
      told = λ q. subst (λ (hs : List Hash). Contains hs q ↔ (Contains c.args.self.now.shaded q ⊎ (q ≡ c.args.h.now))) (sym all)
          (subst (λ (hs : List Hash). Contains (hs ++ c.args.h.now ∷ []) q ↔ (Contains c.args.self.now.shaded q ⊎ (q ≡ c.args.h.now)))
          (sym was) (told_more c.args.self.now.shaded c.args.h.now q));
      walk = subst (λ (w : Walk). Shades w c.args.h.now c.shade.new.self) (sym same) c.in_ok-shade.ensures.ok;
      rest = λ i. record {
        turning = sym turning i;
        shaded = c.push.new.self.items;
        walk = c.shade.new.self;
        slices = ap (λ (t : Turning). t.slices) c.self.view_is i;
      };
    }
