-- What a session leaves to its source, through its opening, its edits and a change of the source.
use Rattle.std.proofs.Common.{◌≡◌, ℕ, zero, suc, arith, Bool, true, false, if◌then◌else◌, List, [], ◌∷◌, sym}
use Rattle.std.proofs.Common.{◌∙◌, subst, Contains, Result, Ok, Err, IfOk, OnOk, OnErr}
use Rattle.ledger_spec.specs.declared.Kind.{Kind}
use Rattle.ledger_spec.specs.Bytes.{Bytes, Hash, Half, Lookup, Items, is_zero}
use Rattle.ledger_spec.specs.Maps.{hash_cmp, insert_in, remove_in}
use Rattle.ledger_spec.specs.Reach.{Reach, root, kid}
use Rattle.ledger_spec.proofs.shared.ReachLaws.{reach_joins}
use Rattle.cow_map.specs.declared.link.Link.TheVariants.{Empty, Unloaded}
use Rattle.cow_map.specs.Bodies.{Body, CowTree}
use Rattle.cow_map.specs.Edits.{IsSub, SetsItem, RemovesKey}
use Rattle.cow_map.specs.Gathered.{nothing_held}
use Rattle.cow_map.specs.Trees.{StandsFor, link_to}
use Rattle.cow_map.specs.Unloaded.{unloaded_at, unloaded, StaysOverReach, KeepsReach, LeavesWhole, IsLeftWhole, StandsAnywhere}
use Rattle.edit_session.specs.Drafts.{Draft, StandsAlone, Edits, LeavesToParent, StaysOverParent}
use Rattle.edit_session.specs.Changes.{SetsAccount, RemovesAccount, SetsTx}

-- a source that has the same under all that is reached reaches the same
reach_same : (nodes other : Lookup) (roots : List Hash) → ((h : Hash) → Reach nodes roots h → other h ≡ nodes h) → (k : Hash)
    → Reach nodes roots k → Reach other roots k
reach_same nodes other roots same k (root inside held) = root inside (held.0, same k (root inside held) ∙ held.1)
reach_same nodes other roots same k (kid {h = h} parent at inside held) =
    kid (reach_same nodes other roots same h parent) (same h parent ∙ at) inside
    (held.0, same k (kid parent at inside held) ∙ held.1)

pub stays : StaysOverReach → IsLeftWhole → StaysOverParent
stays stay whole half stored other d accounts txs edits leaves same =
    let state : StandsFor half other d.state accounts =
    stay half stored other d.state accounts (λ h c. same h (reach_joins (λ r inside held. leaves.reached r inside) c)) edits.state in (
      record { state = state; alone = edits.alone },
      record {
        reached = λ h c. reach_same stored other (d.parent.state_root ∷ []) same h (leaves.reached h c);
        whole = (whole half other d.state accounts state).0;
        none = leaves.none;
      },
    )

-- a map over a root leaves that root, or nothing
left_over : (nodes : List Body) (left : ℕ) (r : Hash) (t : Bool) (h : Hash)
    → Contains (unloaded_at nodes left (if t then Empty else Unloaded r)) h → Contains (r ∷ []) h
unfolding unloaded_at
left_over nodes zero r true h c = absurd (omega (arith, c.1))
left_over nodes (suc left) r true h c = absurd (omega (arith, c.1))
left_over nodes zero r false h c = c
left_over nodes (suc left) r false h c = c

module _ (whole : IsLeftWhole) where
  pub opened : (half : Half) (stored : Lookup) (d : Draft) (kind : Kind) (accounts : Items)
      → d.state ≡ record { kind = kind; nodes = []; top = link_to d.parent.state_root }
      → StandsFor half stored d.state accounts → unloaded d.txs ≡ [] → LeavesToParent half stored d
  opened half stored d kind accounts over stands none = record {
    reached = λ h c.
        root (left_over [] 64 d.parent.state_root (is_zero d.parent.state_root) h (subst (λ m. Contains (unloaded m) h) over c))
        ((whole half stored d.state accounts stands).1 h c);
    whole = (whole half stored d.state accounts stands).0;
    none = none;
  }

  -- where only the account state is another one, and leaves what is reached from what it left
  pub leaves_still : (half : Half) (stored : Lookup) (old new : Draft) → new ≡ record old { state = new.state }
      → KeepsReach half stored old.state new.state
      → ((accounts : Items) → StandsFor half stored old.state accounts → (next : Items) × StandsFor half stored new.state next)
      → (accounts txs : Items) → Edits half stored old accounts txs → LeavesToParent half stored old → LeavesToParent half stored new
  leaves_still half stored old new rest keeps change accounts txs edits leaves =
      let next = change accounts edits.state in
      let left = whole half stored new.state next.0 next.1 in
      record {
        reached = λ h c.
            subst (λ (d : Draft). Reach stored (d.parent.state_root ∷ []) h) (sym rest)
            (reach_joins (λ r inside held. leaves.reached r inside) (keeps accounts edits.state h c));
        whole = left.0;
        none = subst (λ (d : Draft). unloaded d.txs ≡ []) (sym rest) leaves.none;
      }

  pub set : (half : Half) (stored : Lookup) (old new : Draft) (key : Hash) (value : Bytes) → new ≡ record old { state = new.state }
      → SetsItem half stored old.state new.state key value → KeepsReach half stored old.state new.state
      → SetsAccount half stored old new key value
  set half stored old new key value rest sets keeps = record {
    maps = λ small sub accounts txs edits. record {
      state = sets small sub accounts edits.state;
      alone = subst (λ (d : Draft). StandsAlone d.txs txs) (sym rest) edits.alone;
    };
    left = leaves_still half stored old new rest keeps
        (λ accounts stands. (insert_in hash_cmp accounts key value, sets stored (λ h form is. is) accounts stands));
  }

  pub removed : (half : Half) (stored : Lookup) (old new : Draft) (key : Hash) (there : Bool) → new ≡ record old { state = new.state }
      → RemovesKey half stored old.state new.state key there → KeepsReach half stored old.state new.state
      → RemovesAccount half stored old new key there
  removed half stored old new key there rest removes keeps = record {
    maps = λ small sub accounts txs edits.
        let next = removes small sub accounts edits.state in (
          next.0,
          record {
            state = next.1;
            alone = subst (λ (d : Draft). StandsAlone d.txs txs) (sym rest) edits.alone;
          },
        );
    left = leaves_still half stored old new rest keeps
        (λ accounts stands. (remove_in hash_cmp accounts key, (removes stored (λ h form is. is) accounts stands).1));
  }

none_sub : (stored : Lookup) → IsSub nothing_held stored
none_sub stored h form e = cc

-- the transactions, which leave nothing to a source
module _ (anywhere : StandsAnywhere) where
  pub alone : (half : Half) (m : CowTree) (items : Items) → StandsFor half nothing_held m items → StandsAlone m items
  alone half m items stands = (anywhere half m items stands).1

  pub none_left : (half : Half) (m : CowTree) (items : Items) → StandsAlone m items → unloaded m ≡ []
  none_left half m items stands = (anywhere half m items (stands half nothing_held)).0

  pub set_tx : (half : Half) (held : Lookup) (old new : Draft) (key : Hash) (value : Bytes) → new ≡ record old { txs = new.txs }
      → SetsItem half held old.txs new.txs key value → SetsTx old new key value
  set_tx half held old new key value rest sets = record {
    maps = λ other stored accounts txs edits. record {
      state = subst (λ (d : Draft). StandsFor other stored d.state accounts) (sym rest) edits.state;
      alone = alone half new.txs (insert_in hash_cmp txs key value) (over_none txs edits.alone);
    };
    left = λ other stored accounts txs edits leaves. record {
      reached = λ h c. subst (λ (d : Draft). Reach stored (d.parent.state_root ∷ []) h) (sym rest)
          (leaves.reached h (subst (λ (d : Draft). Contains (unloaded d.state) h) rest c));
      whole = subst (λ (d : Draft). LeavesWhole other stored d.state) (sym rest) leaves.whole;
      none = none_left half new.txs (insert_in hash_cmp txs key value)
          (alone half new.txs (insert_in hash_cmp txs key value) (over_none txs edits.alone));
    };
  }
    where
      over_none : (txs : Items) → StandsAlone old.txs txs → StandsFor half nothing_held new.txs (insert_in hash_cmp txs key value)
      over_none txs stands = sets nothing_held (none_sub held) txs (stands half nothing_held)

  -- so they do after a call that sets an item or leaves them
  pub alone_still : {X F : Type 0} (r : Result X F) (half : Half) (held : Lookup) (old new : CowTree) (key : Hash) (value : Bytes)
      → OnOk r (SetsItem half held old new key value) → OnErr r (new ≡ old) → (items : Items) × StandsAlone old items
      → (items : Items) × StandsAlone new items
  alone_still (Ok x) half held old new key value sets same is =
      let next = insert_in hash_cmp is.0 key value in
      (next, alone half new next (sets nothing_held (none_sub held) is.0 (is.1 half nothing_held)))
  alone_still (Err e) half held old new key value sets same is = (is.0, subst (λ m. StandsAlone m is.0) (sym same) is.1)

-- where one fact, or two, hold of a success
pub on_ok : {X F : Type 0} (r : Result X F) (P Q : Type 0) → OnOk r P → (P → Q) → OnOk r Q
on_ok (Ok x) P Q p f = f p
on_ok (Err e) P Q p f = tt

pub on_both : {X F : Type 0} (r : Result X F) (P Q R : Type 0) → OnOk r P → OnOk r Q → (P → Q → R) → OnOk r R
on_both (Ok x) P Q R p q f = f p q
on_both (Err e) P Q R p q f = tt

pub if_both : {X F : Type 0} (r : Result X F) (P R : X → Type 0) (Q : Type 0) → IfOk r P → OnOk r Q → ((x : X) → P x → Q → R x)
    → IfOk r R
if_both (Ok x) P R Q p q f = f x p q
if_both (Err e) P R Q p q f = tt
