-- the list is longer where the kids were shaded, with the hash at its place, which is then given to the last one
use Rattle.std.proofs.Common.{◌≡◌, ◌∙◌, ◌+◌, ◌<◌, ◌^◌, List, Contains, length, sym, subst, ap, arith, rules}
use Rattle.std.proofs.lemmas.Grind.{common_steps}
use Rattle.ledger_spec.specs.Bytes.{Hash}
use Rattle.ledger_spec.specs.Reach.{kids}
use Rattle.copy_walk.specs.Walks.{Walk, ShadesSome, shaded}
use Rattle.copy_walk.specs.Slices.{Blackens}
use Rattle.copy_walk.proofs.Shading.{has_too, black_less, blackened, one_more}
use Rattle.copy_walk.proofs.Naming.{few_kids}
use Rattle.copy_walk.proofs.walk.CopyWalk.blacken.Goals as goal

pub returns : goal.returns
returns c =
    let mid : Walk = record { grey = c.self.inside.grey.items; black = c.self.inside.black } in
    let some : ShadesSome c.args.self.now (kids c.args.form.now) mid =
    subst (λ (w : Walk). ShadesSome c.args.self.now (kids c.args.form.now) w) (sym c.self.view_is) c.shade_kids.ensures.some in
    let all : (k : Hash) → Contains (kids c.args.form.now) k → Contains (shaded mid) k =
    subst (λ (w : Walk). (k : Hash) → Contains (kids c.args.form.now) k → Contains (shaded w) k) (sym c.self.view_is)
    c.in_ok-shade_kids.ensures.all in
    let blackens : Blackens c.args.self.now c.args.hash.now (kids c.args.form.now)
    (record { grey = c.swap_remove.new.self.items; black = c.push.new.self }) =
    blackened c.args.self.now mid (record { grey = c.swap_remove.new.self.items; black = c.push.new.self }) c.args.hash.now
    c.swap_remove.result (kids c.args.form.now) c.args.place some all c.requires c.swap_remove.ensures.value c.swap_remove.ensures.items
    (has_too c.self.inside.black c.push.new.self c.args.hash.now c.in_ok-push.ensures.ok) in
    let same : c.self.inside.black ≡ c.args.self.now.black =
    ap (λ (w : Walk). w.black) c.self.view_is ∙ c.shade_kids.ensures.some.black in
    let more : length c.push.new.self ≡ length c.self.inside.black + 1 =
    one_more c.self.inside.black c.push.new.self c.args.hash.now c.in_ok-push.ensures.ok in
    let room : length c.args.self.now.black < 2 ^ 63 = omega (arith, ap length same, c.push.ensures.room) in
    record {
      ok = blackens;
      err = first_of (search rules, grind (arith, common_steps));
      -- one more is black, and at most sixteen more are grey
      less = black_less c.args.self.now c.args.hash.now (kids c.args.form.now) _ blackens (few_kids c.args.form.now) room
          (more ∙ ap (λ (hs : List Hash). length hs + 1) same);
    }
