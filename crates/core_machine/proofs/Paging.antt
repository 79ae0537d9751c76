-- What a page of a view's map lists.
use Rattle.std.proofs.Common.{◌≡◌, ◌≢◌, ℕ, Bool, List, [], ◌∷◌, map, Some, Vec, IsTrue, Contains, refl, sym, ap, ◌∙◌}
use Rattle.std.specs.FinMap as finite
use mathlib.Core.Path.{fun_ext}
use Rattle.std.specs.List.{AllByRecursion}
use Rattle.std.proofs.lemmas.List.Elements.{All-contains, All-from_recursion}
use Rattle.std.specs.declared.sync.Arc.{Arc}
use Rattle.std.specs.declared.alloc.Global.{Global}
use Rattle.ledger_spec.specs.declared.Kind.{Kind}
use Rattle.ledger_spec.specs.declared.Kind.TheVariants as kinds
use Rattle.ledger_spec.specs.Bytes.{Hash, Half, Lookup, Nodes}
use Rattle.ledger_spec.specs.Findings.{items_of}
use Rattle.ledger_spec.specs.Forms.{Held, leaf, inner, header, form_of, hash_of}
use Rattle.ledger_spec.specs.Own.{AreStored, own_forms}
use Rattle.ledger_spec.specs.Pages.{after_key, IsPageOf, IsPageOrShows, IsStoredNode}
use Rattle.ledger_spec.proofs.shared.Owning.{all_own}
use Rattle.shamap_node.specs.declared.Node.{Node}
use Rattle.shamap_node.specs.Nodes.{held}
use Rattle.rotating_store.specs.Stores.{Store, nodes_of}
use Rattle.rotating_store.specs.Sources.{own_nodes}
use Rattle.rotating_store.proofs.shared.Sources.{own_at}
use Rattle.path_proof.specs.Sources.{AreHeld}
use Rattle.map_cursor.specs.Shown.{entry_of, items_in}
use Rattle.ledger_machine.specs.declared.commands.PageReply.TheVariants as pages
use Rattle.ledger_machine.specs.declared.commands.Reply.TheVariants as says
use Rattle.ledger_machine.specs.Reading.{leaf_entry, IsPage}
use Rattle.ledger_machine.specs.Scripts.{IsLedgerMap}
use Rattle.ledger_machine.specs.State.{State, form_in}
use Rattle.core_machine.proofs.shared.Entries.{IsOver}

-- a ledger's map is no set
pub no_set : (kind : Kind) → IsLedgerMap kind → kind ≢ kinds.Set
no_set kinds.State is e = cc
no_set kinds.Tx is e = cc
no_set kinds.Set is e = is

-- where all that is stored are forms under their own hashes, the store gives all of it
pub gives_all : (half : Half) (st : Store) (s : State) → IsOver st s → AreStored half (form_in s)
    → finite.get (own_nodes half (nodes_of st)) ≡ form_in s
gives_all half st s is all =
    fun_ext (λ h. own_at half (nodes_of st) h) ∙ ap (λ (n : Nodes). own_forms half (finite.get n)) (sym is.nodes)
    ∙ all_own half (form_in s) all

-- a leaf's entry, by either name
same_entry : (n : Held) → leaf_entry n ≡ entry_of n
same_entry (leaf kind key bytes) = refl
same_entry (inner hashes) = refl
same_entry (header bytes) = refl

listed : (leaves : List (Arc Node Global)) → map (λ l. leaf_entry (held l.value)) leaves ≡ items_in leaves
listed [] = refl
listed (l ∷ leaves) = ap (λ e. e ∷ map (λ l. leaf_entry (held l.value)) leaves) (same_entry (held l.value))
    ∙ ap (λ es. entry_of (held l.value) ∷ es) (listed leaves)

-- each of the nodes used is stored
each_stored : (half : Half) (nodes : Lookup) (used : List Held) (u : Held) → AllByRecursion (IsStoredNode half nodes) used
    → Contains used u → nodes (hash_of half u) ≡ Some (form_of u)
each_stored half nodes used u all among =
    (All-contains (IsStoredNode half nodes) used u (All-from_recursion (IsStoredNode half nodes) used all) among).stored

-- a page of the store's own nodes is one of the state
pub is_page : (half : Half) (st : Store) (s : State) (kind : Kind) (after : Hash) (n : ℕ) (root : Hash) (tells : Bool)
    (leaves : Vec (Arc Node Global) Global) (used : List Held) → IsTrue tells → IsOver st s → AreStored half (form_in s) → IsLedgerMap kind
    → AreHeld half tells (finite.get (own_nodes half (nodes_of st))) used
    → (IsTrue tells → items_in leaves.items ≡ after_key after n (items_of half (finite.get (own_nodes half (nodes_of st))) kind root))
    → IsPageOf half kind root after n used (items_in leaves.items)
    → (kind ≢ kinds.Set → IsPageOrShows half kind root after n used (items_in leaves.items))
    → IsPage half s kind after n root (says.Page (pages.Items leaves)) used
is_page half st s kind after n root tells leaves used told is all ledger found own read law =
    let given : finite.get (own_nodes half (nodes_of st)) ≡ form_in s = gives_all half st s is all in record {
      page = items_in leaves.items;
      says = ap Some (listed leaves.items);
      own = own told ∙ ap (λ (l : Lookup). after_key after n (items_of half l kind root)) given;
      read = read;
      stored = λ u among. ap (λ (l : Lookup). l (hash_of half u)) (sym given)
          ∙ each_stored half (finite.get (own_nodes half (nodes_of st))) used u (found told) among;
      every = law (no_set kind ledger);
    }
