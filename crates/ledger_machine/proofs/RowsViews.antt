-- Worked rows of views and reads, under the byte sum: a view of ledger 10, and one of a ledger that has a transaction too.
use Rattle.std.specs.Prelude.{◌≡◌, ℕ, List, [], ◌∷◌, ◌++◌, map, replicate, true, false, Vec, None, Some, refl}
use Rattle.std.specs.FinMap as finite
use Rattle.std.specs.declared.sync.Arc.{Arc}
use Rattle.std.specs.declared.alloc.Global.{Global}
use Rattle.std.proofs.Common.{ap, sym, ◌∙◌, All, arith, inr}
use Rattle.half_hash.specs.Half.{byte_sum_half}
use Rattle.shamap_node.specs.declared.Node.{Node}
use Rattle.shamap_node.specs.Nodes.{held}
use Rattle.ledger_spec.specs.declared.Kind.TheVariants.{State as accounts, Tx as txs}
use Rattle.ledger_spec.specs.declared.Place.TheVariants as place
use Rattle.ledger_spec.specs.Bytes.{Hash, Items, zero_hash}
use Rattle.ledger_spec.specs.Reads.{value, Shows}
use Rattle.ledger_spec.specs.Tree as tree
use Rattle.ledger_spec.specs.Tree.{root_of, form_at}
use Rattle.ledger_spec.specs.Pages.{page_from, heard_from, IsPageOf, IsPageOrShows, after_key}
use Rattle.std.proofs.lemmas.List.Elements.{All-contains, All-nil, All-cons}
use Rattle.ledger_spec.specs.Findings.{walk, walk_map, walk_ledger, findings, lacks, items_of}
use Rattle.ledger_spec.specs.Forms.{Held, leaf, inner, header, form_of, hash_of, inner_of, header_of, keyed_leaf_of, bare_leaf_of}
use Rattle.ledger_machine.specs.declared.commands.Command.TheVariants as command
use Rattle.ledger_machine.specs.declared.commands.GetReply.TheVariants as gets
use Rattle.ledger_machine.specs.declared.commands.PageReply.TheVariants as pages
use Rattle.ledger_machine.specs.declared.commands.ViewReply.TheVariants as views
use Rattle.ledger_machine.specs.declared.commands.Reply.TheVariants as says
use Rattle.ledger_machine.specs.Reading.{value_in, leaf_entry}
use Rattle.ledger_machine.specs.Limits.{default_interval}
use Rattle.ledger_machine.specs.State.{State, opening, form_in}
use Rattle.ledger_machine.proofs.RowValues.{at, entries_of, hashes_of, leaf10, root10, nodes10}
use Rattle.ledger_machine.proofs.RowSteps.{in_list, store, read_off, Row, Reads, step, gives, gets_from, pages_from}

-- this ledger is listed, and these views are open
abbrev with : Hash → List ((ℕ × ℕ) × Hash) → State
with t views = record (opening finite.empty default_interval) { listed = (t, 10) ∷ []; views = views; last = Some 10 }

abbrev viewed10 : State
viewed10 = with (at 0xDD) (((0, 7), at 0xDD) ∷ [])

-- a view of a listed ledger
view_of_a_listed_ledger : Row (store (with (at 0xDD) []) nodes10) (command.View 7 (at 0xDD)) (says.View views.Fine)
    (store viewed10 nodes10)
view_of_a_listed_ledger = step (gives refl refl) refl tt

-- a number that the actor uses is in use
view_number_in_use : Row (store viewed10 nodes10) (command.View 7 (at 0xDD)) (says.View views.InUse) (store viewed10 nodes10)
view_number_in_use = step (gives refl refl) refl tt

-- the item [10], by the root and the leaf
get_gives_the_value : (n : Arc Node Global) → held n.value ≡ leaf10
    → Reads (store viewed10 nodes10) (command.Get 7 accounts (at 0x10)) (says.Get (gets.Value n)) (root10 ∷ leaf10 ∷ [])
unfolding header_of
get_gives_the_value n is = record {
  outcome = gets_from viewed10 (entries_of nodes10) (hashes_of nodes10) accounts (at 0x10) (0, 7) (at 0xDE) _ _ refl
      record {
        says = sym (ap value_in is);
        some = λ none. absurd
            (let e : Some (value (1 ∷ 2 ∷ [])) ≡ None = sym (ap value_in is) ∙ none in cc);
        last = sym (ap (λ (u : Held). Some u) is);
      };
  uses = tt;
  carries = tt;
}

-- no item [20], by the root alone
get_of_no_item : Reads (store viewed10 nodes10) (command.Get 7 accounts (at 0x20)) (says.Get gets.Nothing) (root10 ∷ [])
unfolding header_of
get_of_no_item = record {
  outcome = gets_from viewed10 (entries_of nodes10) (hashes_of nodes10) accounts (at 0x20) (0, 7) (at 0xDE) _ _ refl record
      { says = refl; some = λ none. absurd cc; last = tt };
  uses = tt;
  carries = tt;
}

-- nothing in the empty transaction map, by no node
get_in_an_empty_map : Reads (store viewed10 nodes10) (command.Get 7 txs (at 0x10)) (says.Get gets.Nothing) []
unfolding header_of
get_in_an_empty_map = record {
  outcome = gets_from viewed10 (entries_of nodes10) (hashes_of nodes10) txs (at 0x10) (0, 7) zero_hash _ _ refl record
      { says = refl; some = λ none. absurd cc; last = tt };
  uses = tt;
  carries = tt;
}

-- the number is the actor's own: without a view of that number there is no read
get_without_a_view : Row (store (with (at 0xDD) (((1, 7), at 0xDD) ∷ [])) nodes10) (command.Get 7 txs (at 0x10))
    (says.Get gets.NoView) (store (with (at 0xDD) (((1, 7), at 0xDD) ∷ [])) nodes10)
get_without_a_view = step (gives refl refl) refl tt

-- the items behind [00], at most two: the root and the leaf say them
abbrev page10 : Items
page10 = (at 0x10, 1 ∷ 2 ∷ []) ∷ []

page_is_said : IsPageOf byte_sum_half accounts (at 0xDE) zero_hash 2 (root10 ∷ leaf10 ∷ []) page10
unfolding page_from heard_from
page_is_said = refl

abbrev IsStored10 : Held → Type 0
IsStored10 n = form_in (store viewed10 nodes10) (hash_of byte_sum_half n) ≡ Some (form_of n)

both_are_stored : All IsStored10 (root10 ∷ leaf10 ∷ [])
both_are_stored =
    All-cons IsStored10 root10 (leaf10 ∷ []) (read_off (λ nodes. nodes (at 0xDE)) (entries_of nodes10) _ refl)
    (All-cons IsStored10 leaf10 [] (read_off (λ nodes. nodes (at 0xFA)) (entries_of nodes10) _ refl) (All-nil IsStored10))

-- the page is the stored map's; that it is every such map's, or shows a collision, is the law of pages
page_lists_the_items : (leaves : Vec (Arc Node Global) Global) → map (λ l. leaf_entry (held l.value)) leaves.items ≡ page10
    → IsPageOrShows byte_sum_half accounts (at 0xDE) zero_hash 2 (root10 ∷ leaf10 ∷ []) page10
    → Reads (store viewed10 nodes10) (command.Page 7 accounts zero_hash 2) (says.Page (pages.Items leaves)) (root10 ∷ leaf10 ∷ [])
unfolding walk walk_map inner_of header_of keyed_leaf_of bare_leaf_of
page_lists_the_items leaves are every = record {
  outcome = pages_from viewed10 (entries_of nodes10) (hashes_of nodes10) accounts zero_hash 2 (0, 7) (at 0xDE) _ _ refl record {
    page = page10;
    says = ap (λ (p : Items). Some p) are;
    own = sym (read_off (λ nodes. after_key zero_hash 2 (items_of byte_sum_half nodes accounts (at 0xDE))) (entries_of nodes10)
        page10 refl);
    read = page_is_said;
    stored = λ u used. All-contains IsStored10 (root10 ∷ leaf10 ∷ []) u both_are_stored used;
    every = every;
  };
  uses = tt;
  carries = tt;
}

-- a ledger with the transaction [30] = 02: its leaf is [17], the root [FB], its header [D8]
abbrev tx_leaf : Held
tx_leaf = leaf txs (at 0x30) (2 ∷ [])

abbrev tx_root : Held
tx_root = inner (zero_hash ∷ zero_hash ∷ zero_hash ∷ at 0x17 ∷ replicate 12 zero_hash)

abbrev tx_head : Held
tx_head = header (0 ∷ 0 ∷ 0 ∷ 10 ∷ replicate 8 0 ++ zero_hash ++ at 0xFB ++ at 0xDE ++ replicate 10 0)

abbrev with_roots : List Held
with_roots = root10 ∷ tx_root ∷ tx_head ∷ []

abbrev nodes_tx : List Held
nodes_tx = leaf10 ∷ tx_leaf ∷ with_roots

abbrev viewed_tx : State
viewed_tx = with (at 0xD8) (((0, 1), at 0xD8) ∷ [])

-- both maps are searched, the account state first
both_maps_are_searched : findings byte_sum_half (in_list (entries_of with_roots)) (at 0xD8) ≡ lacks (place.Node accounts (1 ∷ []))
    ∷ lacks (place.Node txs (3 ∷ [])) ∷ []
unfolding walk walk_map walk_ledger inner_of header_of keyed_leaf_of bare_leaf_of
both_maps_are_searched = refl

-- and nothing is missing with both leaves
both_maps_are_whole : findings byte_sum_half (in_list (entries_of nodes_tx)) (at 0xD8) ≡ []
unfolding walk walk_map walk_ledger inner_of header_of keyed_leaf_of bare_leaf_of
both_maps_are_whole = refl

-- a read in the transaction map
get_in_the_transaction_map : (n : Arc Node Global) → held n.value ≡ tx_leaf
    → Reads (store viewed_tx nodes_tx) (command.Get 1 txs (at 0x30)) (says.Get (gets.Value n)) (tx_root ∷ tx_leaf ∷ [])
unfolding header_of
get_in_the_transaction_map n is = record {
  outcome = gets_from viewed_tx (entries_of nodes_tx) (hashes_of nodes_tx) txs (at 0x30) (0, 1) (at 0xFB) _ _ refl
      record {
        says = sym (ap value_in is);
        some = λ none. absurd
            (let e : Some (value (2 ∷ [])) ≡ None = sym (ap value_in is) ∙ none in cc);
        last = sym (ap (λ (u : Held). Some u) is);
      };
  uses = tt;
  carries = tt;
}

-- the same key in the account state
get_of_no_account : Reads (store viewed_tx nodes_tx) (command.Get 1 accounts (at 0x30)) (says.Get gets.Nothing) (root10 ∷ [])
unfolding header_of
get_of_no_account = record {
  outcome = gets_from viewed_tx (entries_of nodes_tx) (hashes_of nodes_tx) accounts (at 0x30) (0, 1) (at 0xDE) _ _ refl record
      { says = refl; some = λ none. absurd cc; last = tt };
  uses = tt;
  carries = tt;
}

-- the view ends once
unview_ends_the_view : Row (store viewed_tx nodes_tx) (command.Unview 1) (says.Unview true) (store (with (at 0xD8) []) nodes_tx)
unview_ends_the_view = step (gives refl refl) refl tt

unview_of_no_view : Row (store (with (at 0xD8) []) nodes_tx) (command.Unview 1) (says.Unview false)
    (store (with (at 0xD8) []) nodes_tx)
unview_of_no_view = step (gives refl refl) refl tt

-- the map that has 0201 under [10] has the root of ledger 10 as well; the path that a read of ledger 10 uses shows its leaf at branch 1,
-- where the two leaves differ and have one hash
abbrev other10 : Items
other10 = (at 0x10, 2 ∷ 1 ∷ []) ∷ []

one_root : root_of byte_sum_half accounts other10 ≡ at 0xDE
unfolding form_at tree.form_of_part
one_root = refl

two_leaves_with_one_hash : Shows byte_sum_half accounts other10 (at 0xDE) (root10 ∷ leaf10 ∷ [])
unfolding form_at tree.form_of_part
two_leaves_with_one_hash = record {
  path = 1 ∷ [];
  is_path = record { short = omega arith; nibbles_below = refl };
  read = Some (form_of leaf10);
  own = form_at byte_sum_half accounts other10 (1 ∷ []);
  stands = (zero_hash ∷ at 0xFA ∷ replicate 14 zero_hash, (0, omega arith, refl), refl, (leaf10, (1, omega arith, refl), refl, refl));
  has = (refl, inr (λ k above below. absurd (omega arith)));
  differ = λ same. absurd cc;
  one_hash = refl;
}
