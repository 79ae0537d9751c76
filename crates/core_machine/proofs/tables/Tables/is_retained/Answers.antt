-- listed, or pinned by a view: no session is open
use Rattle.std.proofs.Common.{◌≡◌, ◌∙◌, refl, sym, ap, ◌||◌, true, false, []}
use Rattle.std.specs.List.{list_any}
use Rattle.std.specs.Map.{values_of}
use Rattle.ledger_spec.specs.Bytes.{same_bytes}
use Rattle.ledger_spec.specs.Maps.{hash_cmp, has_in}
use Rattle.ledger_machine.specs.State.{State}
use Rattle.core_machine.proofs.Viewing.{retained_by}
use Rattle.core_machine.proofs.tables.Tables.is_retained.Goals as goal

pub returns-then-is_listed : goal.returns-then-is_listed
returns-then-is_listed g c =
    let s : State = c.args.self.now.state in
    let none : s.sessions ≡ [] = rw (← c.self.view_is) refl in
    let listed : c.is_listed.result ≡ has_in hash_cmp s.listed c.args.target.now = rw (← c.self.view_is) c.is_listed.ensures in
    let is : has_in hash_cmp s.listed c.args.target.now ≡ true = sym listed ∙ c.if-is_listed.true in
    c.if-is_listed.true ∙ sym (ap (λ b. b || list_any (same_bytes c.args.target.now) (values_of s.views)) is)
    ∙ retained_by s c.args.target.now none

pub returns-else-is_listed : goal.returns-else-is_listed
returns-else-is_listed g c =
    let s : State = c.args.self.now.state in
    let none : s.sessions ≡ [] = rw (← c.self.view_is) refl in
    let listed : c.is_listed.result ≡ has_in hash_cmp s.listed c.args.target.now = rw (← c.self.view_is) c.is_listed.ensures in
    let isnt : has_in hash_cmp s.listed c.args.target.now ≡ false = sym listed ∙ c.if-is_listed.false in
    let pinned : c.is_pinned.result ≡ list_any (same_bytes c.args.target.now) (values_of s.views) =
    rw (← c.self.view_is) c.is_pinned.ensures
    in
    pinned ∙ sym (ap (λ b. b || list_any (same_bytes c.args.target.now) (values_of s.views)) isnt) ∙ retained_by s c.args.target.now none
