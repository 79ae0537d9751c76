-- What is found of a view, and what a read of its map says.
use Rattle.std.proofs.Common.{◌≡◌, ◌≤◌, ℕ, Bool, true, false, List, [], ◌∷◌, ◌++◌, Option, Some, None, ◌||◌, map, Result, Ok, Err}
use Rattle.std.proofs.Common.{IfOk, IfSome, IsTrue, refl, sym, ap}
use Rattle.std.proofs.Common.{◌∙◌, arith}
use Rattle.std.specs.Option.{option_map, option_and_then}
use Rattle.std.specs.FinMap as finite
use Rattle.std.specs.BTreeMap.{is_at}
use Rattle.std.specs.List.{list_any}
use Rattle.std.specs.Map.{keys_of, values_of}
use Rattle.std.proofs.lemmas.Map.Made.{is_some-lookup}
use Rattle.std.proofs.lemmas.Map.Text.{is_eq-slice_cmp}
use Rattle.std.proofs.lemmas.List.Folds.{list_any-append}
use Rattle.std.proofs.lemmas.List.{append-nil}
use Rattle.node_backend.specs.declared.back.BackFault.{BackFault}
use Rattle.node_backend.specs.declared.back.BackFault.TheVariants as back
use Rattle.ledger_spec.specs.declared.Kind.{Kind}
use Rattle.ledger_spec.specs.Bytes.{Bytes, Hash, Half, Lookup, Nodes, same_bytes}
use Rattle.path_proof.specs.declared.source.FetchFault.{FetchFault}
use Rattle.ledger_spec.specs.Maps.{hash_cmp, numbered_cmp, get_in, has_in, ForHash, ForActor}
use Rattle.ledger_spec.specs.Own.{AreStored, own_forms}
use Rattle.ledger_spec.specs.Spots.{header_in, header_root}
use Rattle.ledger_spec.proofs.shared.Owning.{all_own}
use Rattle.ledger_machine.specs.State.{State, Session, form_in}
use Rattle.ledger_machine.specs.Reading.{view_root}
use Rattle.ledger_machine.specs.Views.{is_retained}
use Rattle.rotating_store.specs.Sources.{AreFiled, rest_of}
use Rattle.rotating_store.specs.Stores.{Store, nodes_of, born_of, Counted}
use Rattle.rotating_store.specs.Reading.{WasRead}
use Rattle.core_machine.specs.Desks.{Desk, IsFiled, OnlyReads, over, backs}
use Rattle.core_machine.proofs.Copies.{backs_of, counted_backs}
use Rattle.core_machine.specs.declared.views.Got.{Got}
use Rattle.core_machine.specs.Reads.{IsGot}
use Rattle.core_machine.specs.Refusals.{read_refusal}
use Rattle.path_proof.specs.Paths.{held_nodes}
use Rattle.ledger_spec.specs.Forms.{Held}
use Rattle.ledger_machine.specs.declared.commands.Command.TheVariants as command
use Rattle.ledger_machine.specs.declared.commands.Reply.TheVariants as says
use Rattle.ledger_machine.specs.Steps.{Does}
use Rattle.core_machine.proofs.shared.States.{refused_nothing}
use Rattle.core_machine.proofs.shared.Entries.{IsOver, same_over}

-- the root of an open view's map
root_at : (half : Half) (st : Store) (s : State) (v : ℕ × ℕ) (t : Hash) (kind : Kind) → IsOver st s → AreStored half (form_in s)
    → get_in numbered_cmp s.views v ≡ Some t
    → option_map (header_root kind) (header_in (own_forms half (finite.get (nodes_of st))) t) ≡ view_root s kind v
root_at half st s v t kind is all viewed =
    ap (λ (n : Nodes). option_map (header_root kind) (header_in (own_forms half (finite.get n)) t)) (sym is.nodes)
    ∙ ap (λ (l : Lookup). option_map (header_root kind) (header_in l t)) (all_own half (form_in s) all)
    ∙ sym (ap (option_and_then (λ x. option_map (header_root kind) (header_in (form_in s) x))) viewed)

pub root_found : (half : Half) (st : Store) (s : State) (v : ℕ × ℕ) (t : Hash) (kind : Kind) (r : Result (Option Hash) BackFault)
    → IsOver st s → AreStored half (form_in s) → get_in numbered_cmp s.views v ≡ Some t
    → IfOk r (λ root. root ≡ option_map (header_root kind) (header_in (own_forms half (finite.get (nodes_of st))) t))
    → IfOk r (λ root. root ≡ view_root s kind v)
root_found half st s v t kind (Ok root) is all viewed found = found ∙ root_at half st s v t kind is all viewed
root_found half st s v t kind (Err e) is all viewed found = tt

pub no_root : (s : State) (v : ℕ × ℕ) (kind : Kind) → get_in numbered_cmp s.views v ≡ None → None ≡ view_root s kind v
no_root s v kind none = sym (ap (option_and_then (λ x. option_map (header_root kind) (header_in (form_in s) x))) none)

-- where all that a state tells stands under its own hashes, the bytes that are read are those that have the hash
pub form_stands : (half : Half) (tells : Bool) (s : State) (h : Hash) (r : Result (Option Bytes) FetchFault) → IsFiled half tells s
    → (IsTrue tells → IfOk r (λ b. b ≡ form_in s h)) → IfOk r (λ o. IfSome o (λ form. IsTrue tells → half form ≡ h))
form_stands half tells s h (Err e) filed is = tt
form_stands half tells s h (Ok None) filed is = tt
form_stands half tells s h (Ok (Some form)) filed is = λ told. sym (filed told h form (sym (is told))).own

-- what a state tells stands under its own hashes, and so does what its store tells
pub filed_by : (half : Half) (tells : Bool) (s : State) (st : Store) → IsOver st s → IsFiled half tells s → AreFiled half tells st
filed_by half tells s st is filed told h form at = (filed told h form (ap (λ (n : Nodes). finite.get n h) is.nodes ∙ at)).own

-- what the commands act on, after the store was read
abbrev pub read_desk : Desk → Store → Desk
read_desk d st = record d { state = over st d.state; faults = st.faults; gets = st.gets; written = st.writable; archived = st.archive }

-- what only read the store left the state
pub only_reads : (tells : Bool) (half : Half) (d0 d : Desk) (st st' : Store) → d0 ≡ d → backs d0 ≡ backs_of st → IsOver st d.state
    → st.faults ≡ d.faults
    → WasRead tells half st st' → OnlyReads tells d (read_desk d0 st')
only_reads tells half d0 d st st' e lie is same read = record {
  copies = λ told. counted_backs st st' (read.same told) ∙ sym lie ∙ ap backs e;
  slices = omega (arith, ap (λ (x : Desk). x.slices) e);
  state = λ told. ap (λ (x : Desk). over st' x.state) e ∙ same_over st st' d.state is (read.same told);
  tables =
      ap (λ (x : Desk). over st' x.state) e
      ∙ ap (λ n. record d.state { nodes = nodes_of st'; born = born_of st'; epoch = n }) (read.later.past.0 ∙ sym is.epoch);
  later = omega (arith, read.later.faults, same);
}

-- what was asked of a store leaves the state as well
counted_by_rest : (tells : Bool) (st st' : Store) → IsTrue tells → rest_of tells st' ≡ rest_of tells st → Counted st st'
counted_by_rest true st st' told e = ap (λ (r : Store). record r { faults = st'.faults; gets = st'.gets; noted = st'.noted }) e
counted_by_rest false st st' told e = absurd cc

pub only_asked : (tells : Bool) (d0 d : Desk) (st st' : Store) → d0 ≡ d → backs d0 ≡ backs_of st → IsOver st d.state
    → st.faults ≡ d.faults
    → rest_of tells st' ≡ rest_of tells st → st.faults ≤ st'.faults
    → OnlyReads tells d (read_desk d0 st')
only_asked tells d0 d st st' e lie is same rest later = record {
  copies = λ told. counted_backs st st' (counted_by_rest tells st st' told rest) ∙ sym lie ∙ ap backs e;
  slices = omega (arith, ap (λ (x : Desk). x.slices) e);
  state = λ told. ap (λ (x : Desk). over st' x.state) e ∙ same_over st st' d.state is (counted_by_rest tells st st' told rest);
  tables =
      ap (λ (x : Desk). over st' x.state) e
      ∙ ap (λ n. record d.state { nodes = nodes_of st'; born = born_of st'; epoch = n })
      (ap (λ (r : Store). r.epoch) rest ∙ sym is.epoch);
  later = omega (arith, later, same);
}

-- a table has a key exactly if one of its keys is the same bytes
by_first : (b more more' : Bool) (x : Bool) → x ≡ b → more ≡ more' → (x || more) ≡ (b || more')
by_first b more more' x first rest = ap (λ y. y || more) first ∙ ap (λ y. b || y) rest

same_keys : (t : Hash) (ks : List Hash) → list_any (is_at (hash_cmp t)) ks ≡ list_any (same_bytes t) ks
same_keys t [] = refl
same_keys t (k ∷ ks) = by_first (same_bytes t k) _ _ (is_at (hash_cmp t) k) (is_eq-slice_cmp t k) (same_keys t ks)

has_key : {X : Type 0} (t : Hash) (es : ForHash X) → has_in hash_cmp es t ≡ list_any (same_bytes t) (keys_of es)
has_key t es = is_some-lookup (is_at (hash_cmp t)) es ∙ same_keys t (keys_of es)

-- a ledger is retained where it is listed or a view pins it, while no session is open
pub retained_by : (s : State) (t : Hash) → s.sessions ≡ []
    → (has_in hash_cmp s.listed t || list_any (same_bytes t) (values_of s.views)) ≡ is_retained s t
retained_by s t none =
    ap (λ b. b || list_any (same_bytes t) (values_of s.views)) (has_key t s.listed)
    ∙ sym (list_any-append (same_bytes t) (keys_of s.listed) (values_of s.views))
    ∙ ap (list_any (same_bytes t)) (sym (append-nil (keys_of s.listed ++ values_of s.views)))
    ∙ ap (λ (es : ForActor Session). list_any (same_bytes t) (keys_of s.listed ++ values_of s.views ++ map (λ x. x.base) (values_of es)))
    (sym none)

-- what is got of a view is a step of the machine
pub does_got : (half : Half) (s s' : State) (actor view : ℕ) (kind : Kind) (key : Hash) (got : Got)
    → IsGot half s kind key (view_root s kind (actor, view)) s' got
    → Does half s actor (command.Get view kind key) (says.Get got.reply) (held_nodes got.used.items) s'
does_got half s s' actor view kind key got is = record {
  outcome = is.gets;
  uses = is.uses;
}

-- and so is a refusal, which leaves the state
pub does_ungot : (half : Half) (s s' : State) (actor view : ℕ) (kind : Kind) (key : Hash) (why : BackFault) (used : List Held)
    → s' ≡ s → used ≡ [] → Does half s actor (command.Get view kind key) (read_refusal why) used s'
does_ungot half s s' actor view kind key back.Fault used same none = record {
  outcome = (tt, refused_nothing half s s' actor (command.Get view kind key) same);
  uses = none;
}
does_ungot half s s' actor view kind key back.Memory used same none = record {
  outcome = (tt, refused_nothing half s s' actor (command.Get view kind key) same);
  uses = none;
}
