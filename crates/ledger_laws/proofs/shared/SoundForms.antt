-- Storing forms under their own hashes keeps a state sound. For proofs of other crates.
use Rattle.std.proofs.Common.{◌≡◌, ◌⊎◌, inl, inr, ⊎_elim, ◌<◌, ℕ, suc, Bool, true, false, cond, if◌then◌else◌, List, [], ◌∷◌, ◌++◌, Option}
use Rattle.std.proofs.Common.{None, Some, is_some, Contains, refl, sym, ap, ◌∙◌, subst, arith, IsTrue}
use Rattle.std.specs.Ordering.{eq_by_cmp}
use Rattle.std.proofs.lemmas.Cmp.{nat_list_cmp_total}
use Rattle.std.proofs.lemmas.Map.Text.{is_eq-slice_cmp}
use Rattle.std.proofs.lemmas.Option.{none-some}
use Rattle.std.specs.Cmp.Lexicographic.{same_text}
use Rattle.std.specs.FinMap as finite
use Rattle.std.specs.FinMap.{get-insert}
use Rattle.std.specs.FinSet as set
use Rattle.ledger_spec.specs.Maps.{hash_cmp}
use Rattle.ledger_spec.specs.Bytes.{Bytes, Hash, Half, Lookup, Nodes, is_nonzero, are_bytes, same_bytes}
use Rattle.ledger_spec.specs.Bases as lookup
use Rattle.ledger_spec.specs.Forms.{Held, Form}
use Rattle.ledger_spec.proofs.shared.ReachLaws.{Grows}
pub use Rattle.tree_laws.proofs.shared.Joins.{in_head}
use Rattle.ledger_machine.specs.declared.commands.Command.{Command}
use Rattle.ledger_machine.specs.State.{State, form_in, with_form, with_forms}
use Rattle.ledger_machine.specs.Sound.{IsStoredAt}
use Rattle.ledger_machine.specs.Steps.{Refused, own_forms}
use Rattle.ledger_laws.proofs.SoundTables.{same_tables}
use Rattle.ledger_laws.proofs.SoundKeeps.{Keeps, keeps_self, keeps_on, keeps_after}

-- what is found at one place is one
pub some_same : {A : Type 0} {x y : A} → Some x ≡ Some y → x ≡ y
some_same e = cc

-- two hashes that the order takes for one are one
pub same_hash : (a b : Hash) → eq_by_cmp hash_cmp a b ≡ true → a ≡ b
same_hash a b e = same_text a b (sym e ∙ is_eq-slice_cmp a b)

-- what is found after one more form
pub get_more : (nodes : Nodes) (k : Hash) (form : Bytes) (h : Hash) (b : Bool) → eq_by_cmp hash_cmp h k ≡ b
    → finite.get (finite.insert nodes k form) h ≡ cond b (Some form) (finite.get nodes h)
get_more nodes k form h b e = get-insert nat_list_cmp_total nodes k form h ∙ ap (λ x. cond x (Some form) (finite.get nodes h)) e

-- what a state holds with forms more is what look-ups with forms more hold
one_more : (half : Half) (s : State) (form : Bytes) (o : Option Bytes) (h : Hash)
    → form_in (if is_some o then s else record s
    { nodes = finite.insert s.nodes (half form) form; born = set.insert s.born (half form) }) h
    ≡ (if is_some o then form_in s h else if same_bytes h (half form) then Some form else form_in s h)
one_more half s form (Some old) h = refl
one_more half s form None h =
    get-insert nat_list_cmp_total s.nodes (half form) form h ∙ ap (λ b. cond b (Some form) (form_in s h)) (is_eq-slice_cmp h (half form))

with_one : (half : Half) (s : State) (form : Bytes) → form_in (with_form half s form) ≡ lookup.with_form half (form_in s) form
with_one half s form = λ i h. one_more half s form (form_in s (half form)) h i

-- one form after another
pub forms_looked_up : (half : Half) (s : State) (forms : List Bytes)
    → form_in (with_forms half s forms) ≡ lookup.with_forms half (form_in s) forms
forms_looked_up half s [] = refl
forms_looked_up half s (form ∷ forms) =
    forms_looked_up half (with_form half s form) forms ∙ ap (λ n. lookup.with_forms half n forms) (with_one half s form)

-- forms, and then others
pub with_forms-append : (half : Half) (s : State) (xs ys : List Bytes)
    → with_forms half s (xs ++ ys) ≡ with_forms half (with_forms half s xs) ys
with_forms-append half s [] ys = refl
with_forms-append half s (x ∷ xs) ys = with_forms-append half (with_form half s x) xs ys

-- what was stored stays, where nothing was stored under the new hash
pub old_stays : (nodes : Nodes) (k : Hash) (form : Bytes) → finite.get nodes k ≡ None
    → Grows (finite.get nodes) (finite.get (finite.insert nodes k form))
old_stays nodes k form free h was e = at (eq_by_cmp hash_cmp h k) refl
  where
    at : (b : Bool) → eq_by_cmp hash_cmp h k ≡ b → finite.get (finite.insert nodes k form) h ≡ Some was
    at true same = absurd (none-some _ (sym free ∙ sym (ap (finite.get nodes) (same_hash h k same)) ∙ e))
    at false other = get_more nodes k form h false other ∙ e

-- and what is stored then was stored, or is the new form under its hash
pub new_or_old : (nodes : Nodes) (k : Hash) (form : Bytes) (h : Hash) (now : Bytes) → finite.get (finite.insert nodes k form) h ≡ Some now
    → (finite.get nodes h ≡ Some now) ⊎ ((h ≡ k) × (now ≡ form))
new_or_old nodes k form h now e = at (eq_by_cmp hash_cmp h k) refl
  where
    at : (b : Bool) → eq_by_cmp hash_cmp h k ≡ b → (finite.get nodes h ≡ Some now) ⊎ ((h ≡ k) × (now ≡ form))
    at true same = inr (same_hash h k same, sym (some_same (sym (get_more nodes k form h true same) ∙ e)))
    at false other = inl (sym (get_more nodes k form h false other) ∙ e)

-- a form that may be stored keeps a state sound
pub with_form_keeps : (half : Half) (s : State) (form : Bytes) → IsStoredAt half (half form) form → Keeps half s (with_form half s form)
with_form_keeps half s form fit = at (form_in s (half form)) refl
  where
    at : (o : Option Bytes) → form_in s (half form) ≡ o
        → Keeps half s (if is_some o then s else record s
        { nodes = finite.insert s.nodes (half form) form; born = set.insert s.born (half form) })
    at (Some old) e = keeps_self half s
    at None e = record {
      grows = old_stays s.nodes (half form) form e;
      news = λ h now there. ⊎_elim (λ old. inl old)
          (λ new. inr (subst (λ x. IsStoredAt half x now) (sym new.0) (subst (λ x. IsStoredAt half (half form) x) (sym new.1) fit)))
          (new_or_old s.nodes (half form) form h now there);
      listed = refl;
      views = refl;
      sessions = refl;
      floor = refl;
      tables = same_tables half s _ refl refl refl refl;
    }

-- growth upon growth
pub grows_on : {l m n : Lookup} → Grows l m → Grows m n → Grows l n
grows_on a b h form e = b h form (a h form e)

-- what is stored stays beside one more form
pub with_form_grows : (half : Half) (s : State) (form : Bytes) → Grows (form_in s) (form_in (with_form half s form))
with_form_grows half s form = at (form_in s (half form)) refl
  where
    at : (o : Option Bytes) → form_in s (half form) ≡ o
        → Grows (form_in s) (form_in
        (if is_some o then s else record s { nodes = finite.insert s.nodes (half form) form; born = set.insert s.born (half form) }))
    at (Some old) e = λ h was x. x
    at None e = old_stays s.nodes (half form) form e

-- and beside several
pub with_forms_grow : (half : Half) (s : State) (forms : List Bytes) → Grows (form_in s) (form_in (with_forms half s forms))
with_forms_grow half s [] = λ h was x. x
with_forms_grow half s (form ∷ forms) = grows_on (with_form_grows half s form) (with_forms_grow half (with_form half s form) forms)

-- each entry behind the first is in the list
pub in_tail : {A : Type 0} (x y : A) (xs : List A) → Contains xs y → Contains (x ∷ xs) y
in_tail x y xs c = (suc c.0, omega (arith, c.1), c.2)

-- several forms that may be stored keep a state sound
pub with_forms_keeps : (half : Half) (s : State) (forms : List Bytes)
    → ((form : Bytes) → Contains forms form → IsStoredAt half (half form) form) → Keeps half s (with_forms half s forms)
with_forms_keeps half s [] each = keeps_self half s
with_forms_keeps half s (form ∷ forms) each =
    keeps_on half s (with_form half s form) (with_forms half (with_form half s form) forms)
    (with_form_keeps half s form (each form (in_head form forms)))
    (with_forms_keeps half (with_form half s form) forms (λ x c. each x (in_tail form x forms c)))

-- bytes that are a form of what is held
abbrev pub IsByteForm : Half → Bytes → Type 0
IsByteForm half form = ((n : Held) × Form half n form) × IsTrue (are_bytes form)

-- with a hash that isn't zero they may be stored
pub may_store : (half : Half) (form : Bytes) → IsTrue (is_nonzero (half form)) → IsByteForm half form → IsStoredAt half (half form) form
may_store half form nonzero is = record { own = refl; nonzero = nonzero; held = is.0; bytes = is.1 }

-- a refused command whose own forms are forms of what is held keeps a state sound
pub refused_keeps : (half : Half) (s : State) (a : ℕ) (c : Command) (s' : State)
    → ((form : Bytes) → Contains (own_forms half s a c) form → IsByteForm half form) → Refused half s a c s' → Keeps half s s'
refused_keeps half s a c s' held r =
    keeps_after half s (with_forms half s r.forms) s'
    (with_forms_keeps half s r.forms (λ form i. may_store half form (r.own form i).1 (held form (r.own form i).0))) r.same

-- nothing is in no list
pub in_nothing : {A : Type 0} {x : A} → Contains [] x → ⊥
in_nothing c = let below : c.0 < 0 = c.1 in omega (arith, below)

-- a refused command with no own forms
pub refused_none : (half : Half) (s : State) (a : ℕ) (c : Command) (s' : State) → own_forms half s a c ≡ [] → Refused half s a c s'
    → Keeps half s s'
refused_none half s a c s' none r =
    refused_keeps half s a c s' (λ form i. absurd (in_nothing (subst (λ forms. Contains forms form) none i))) r
