-- What a ledger that is made has: its header and hash, its roots, and the nodes that changed.
use Rattle.std.specs.Prelude.{◌||◌, Option, None, Some, MatchOption, ◌≡◌, ◌≢◌, ℕ, zero, suc, ◌-◌, ◌*◌, ◌≤◌, ◌&&◌, not, Bool}
use Rattle.std.specs.Prelude.{true, false, if◌then◌else◌, List, [], ◌∷◌, ◌++◌, map, refl}
use Rattle.std.proofs.Common.{sym, ap, ◌∙◌, subst, arith, append-nil}
use Rattle.std.specs.List.{list_all, list_any}
use Rattle.std.proofs.lemmas.List.Folds.{list_all-map}
use Rattle.ledger_spec.specs.declared.Kind.{Kind}
use Rattle.ledger_spec.specs.declared.Kind.TheVariants.{State, Tx}
use Rattle.ledger_spec.specs.Bytes.{Bytes, Hash, Half, Items, is_zero, is_nonzero, same_bytes}
use Rattle.ledger_spec.specs.Forms.{form_of, hash_of, header_prefix}
use Rattle.ledger_spec.specs.Header.{header_bytes}
use Rattle.ledger_spec.specs.Tree.{root_of}
use Rattle.ledger_spec.specs.Maps.{hash_cmp, insert_in}
use Rattle.swarm_gen.specs.declared.plan.Plan.{Plan}
use Rattle.swarm_gen.specs.declared.lines.Sent.{Sent}
use Rattle.map_changes.specs.declared.tracked.PlacedNode.{PlacedNode}
use Rattle.map_changes.specs.declared.tracked.Root.{Root}
use Rattle.std.proofs.lemmas.Bool.{and_parts}
use Rattle.map_changes.specs.Placed.{Placed, nodes_of, is_same, changed, root_blob}
use Rattle.swarm_gen.specs.Ledgers.{state_of, txs_of, state_nodes, tx_nodes, are_nonzero, has_entries, is_made, hash_of_ledger}
use Rattle.swarm_gen.specs.Ledgers.{header_of_ledger, header_over, map_from}
use Rattle.swarm_gen.specs.Swarm.{nodes_before, ledger_of, sent_of, below_root}
use Rattle.swarm_gen.specs.Adding.{ledger_from}
use Rattle.map_changes.specs.Given.{given, IsRoot}
use Rattle.swarm_gen.specs.Sending.{sent, below}
use Rattle.std.specs.Cmp.Lexicographic.{same_text}
use Rattle.map_changes.proofs.shared.Changed.{changed_all}

-- two nodes that are the same have one hash
same_hash : (half : Half) (p q : Placed) → is_same p q ≡ true → hash_of half p.node ≡ hash_of half q.node
same_hash half p q e = ap half (same_text (form_of p.node) (form_of q.node)
    (sym (and_parts (same_bytes p.path q.path) (same_bytes (form_of p.node) (form_of q.node)) e).1))

any_step : (half : Half) (p q : Placed) (before : List Placed) (b : Bool) → is_same p q ≡ b → is_nonzero (hash_of half q.node) ≡ true
    → (list_any (is_same p) before ≡ true → is_nonzero (hash_of half p.node) ≡ true) → (b || list_any (is_same p) before) ≡ true
    → is_nonzero (hash_of half p.node) ≡ true
any_step half p q before true e nz more any = ap is_nonzero (same_hash half p q e) ∙ nz
any_step half p q before false e nz more any = more any

-- a node that was there has a hash that isn't zero
was_nonzero : (half : Half) (p : Placed) (before : List Placed) → are_nonzero half before ≡ true → list_any (is_same p) before ≡ true
    → is_nonzero (hash_of half p.node) ≡ true
was_nonzero half p [] all any = absurd cc
was_nonzero half p (q ∷ before) all any =
    let parts = and_parts (is_nonzero (hash_of half q.node)) (are_nonzero half before) all in
    any_step half p q before (is_same p q) refl parts.0 (was_nonzero half p before parts.1) any

changed_step : (half : Half) (p : Placed) (b : Bool) (rest : List Placed) (n : Bool)
    → (b ≡ true → is_nonzero (hash_of half p.node) ≡ true) → are_nonzero half rest ≡ n
    → are_nonzero half (if not b then p ∷ rest else rest) ≡ (is_nonzero (hash_of half p.node) && n)
changed_step half p true rest n was e = e ∙ ap (λ x. x && n) (sym (was refl))
changed_step half p false rest n was e = ap (λ x. is_nonzero (hash_of half p.node) && x) e

-- the changed nodes tell it of all
pub nonzero_all : (half : Half) (before nodes : List Placed) → are_nonzero half before ≡ true
    → are_nonzero half (changed before nodes) ≡ are_nonzero half nodes
nonzero_all half before [] all = refl
nonzero_all half before (p ∷ nodes) all =
    changed_step half p (list_any (is_same p) before) (changed before nodes) (are_nonzero half nodes) (was_nonzero half p before all)
    (nonzero_all half before nodes all)

sent_step : (half : Half) (kind : Kind) (p : Placed) (b : Bool) (xs : List PlacedNode) (ys : List Placed)
    → map (sent kind) xs ≡ sent_of kind ys
    → map (sent kind) (if b then given half p ∷ xs else xs) ≡ sent_of kind (if b then p ∷ ys else ys)
sent_step half kind p true xs ys e = ap (λ (x : List Sent). sent kind (given half p) ∷ x) e
sent_step half kind p false xs ys e = e

-- the nodes below the root, as they are sent
pub sent_is : (half : Half) (kind : Kind) (nodes : List Placed)
    → map (sent kind) (below (map (given half) nodes)) ≡ sent_of kind (below_root nodes)
sent_is half kind [] = refl
sent_is half kind (p ∷ nodes) = sent_step half kind p (not (same_bytes p.path [])) (below (map (given half) nodes)) (below_root nodes)
    (sent_is half kind nodes)

-- a ledger's hash, over its parent's
pub hash_is : (half : Half) (plan : Plan) (seq : ℕ) (parent : Hash) → 1 ≤ seq → parent ≡ hash_of_ledger half plan (seq - 1)
    → half (header_prefix ++ header_over half plan seq parent) ≡ hash_of_ledger half plan seq
hash_is half plan zero parent low e = absurd (omega arith)
hash_is half plan (suc j) parent low e =
    let n : suc j - 1 ≡ j = omega arith in
    ap (λ (x : Hash). half (header_prefix ++ header_over half plan (suc j) x)) (e ∙ ap (hash_of_ledger half plan) n)

-- the header's bytes, from the two roots
pub header_is : (half : Half) (plan : Plan) (seq : ℕ) (parent tx_root state_root : Hash)
    → tx_root ≡ root_of half Tx (txs_of half plan seq) → state_root ≡ root_of half State (state_of half plan seq)
    → header_bytes (record {
      seq = seq;
      drops = 100000000000000000;
      parent = parent;
      tx_root = tx_root;
      state_root = state_root;
      parent_close = 10 * (seq - 1);
      close = 10 * seq;
      resolution = 10;
      flags = 0;
    })
    ≡ header_over half plan seq parent
unfolding header_over
header_is half plan seq parent tx_root state_root e f =
    λ i. header_bytes (record {
      seq = seq;
      drops = 100000000000000000;
      parent = parent;
      tx_root = e i;
      state_root = f i;
      parent_close =
          10 * (seq - 1);
      close = 10 * seq;
      resolution = 10;
      flags = 0;
    })

pub header_at : (half : Half) (plan : Plan) (seq : ℕ) (parent : Hash) → parent ≡ hash_of_ledger half plan (seq - 1)
    → header_over half plan seq parent ≡ header_of_ledger half plan seq
header_at half plan seq parent e = ap (header_over half plan seq) e

-- a map that isn't empty
pub some_entries : (items : Items) → items ≢ [] → has_entries items ≡ true
some_entries [] h = absurd (h refl)
some_entries (e ∷ items) h = refl

-- what is said of what is there
pub some_case : {A : Type 0} (P : Type 0) (Q : A → Type 0) (o : Option A) (x : A) → o ≡ Some x → MatchOption o P Q → Q x
some_case {A} P Q o x e m = subst (λ (y : Option A). MatchOption y P Q) e m

-- and of what isn't
pub none_case : {A : Type 0} (P : Type 0) (Q : A → Type 0) (o : Option A) → o ≡ None → MatchOption o P Q → P
none_case {A} P Q o e m = subst (λ (y : Option A). MatchOption y P Q) e m

-- a ledger with an empty map isn't made
pub unmade_state : (half : Half) (plan : Plan) (seq : ℕ) → state_of half plan seq ≡ [] → is_made half plan seq ≡ false
unmade_state half plan seq e =
    ap (λ (es : Items). has_entries es && has_entries (txs_of half plan seq) && are_nonzero half (state_nodes half plan seq)
    && are_nonzero half (tx_nodes half plan seq) && is_nonzero (hash_of_ledger half plan seq)) e

one_false : (b n m h : Bool) → (b && false && n && m && h) ≡ false
one_false true n m h = refl
one_false false n m h = refl

pub unmade_tx : (half : Half) (plan : Plan) (seq : ℕ) → txs_of half plan seq ≡ [] → is_made half plan seq ≡ false
unmade_tx half plan seq e =
    ap (λ (es : Items). has_entries (state_of half plan seq) && has_entries es && are_nonzero half (state_nodes half plan seq)
    && are_nonzero half (tx_nodes half plan seq) && is_nonzero (hash_of_ledger half plan seq)) e
    ∙ one_false (has_entries (state_of half plan seq)) (are_nonzero half (state_nodes half plan seq))
    (are_nonzero half (tx_nodes half plan seq)) (is_nonzero (hash_of_ledger half plan seq))

-- what is told of a map's nodes
pub nodes_as : (half : Half) (shown shown' : List Placed) (kind kind' : Kind) (items items' : Items) → shown ≡ shown' → kind ≡ kind'
    → items ≡ items'
    → map (given half) (changed shown (nodes_of half kind items)) ≡ map (given half) (changed shown' (nodes_of half kind' items'))
nodes_as half shown shown' kind kind' items items' a b c = λ i. map (given half) (changed (a i) (nodes_of half (b i) (c i)))

-- and of its root
pub root_as : (half : Half) (kind kind' : Kind) (items items' : Items) (root : Root) → kind ≡ kind' → items ≡ items'
    → IsRoot half kind items root → IsRoot half kind' items' root
root_as half kind kind' items items' root b c r = record {
  is_hash = r.is_hash ∙ (λ i. root_of half (b i) (c i));
  is_blob = r.is_blob ∙ (λ i. root_blob (nodes_of half (b i) (c i)));
}

pub not_empty_as : (items items' : Items) → items ≡ items' → items ≢ [] → items' ≢ []
not_empty_as items items' e h f = h (e ∙ f)

-- what is known of a ledger, before its hashes are looked at
pub record Known (half : Half) (plan : Plan) (seq : ℕ) (state tx : Root) (state_sent tx_sent : List PlacedNode) (hash : Hash) : Type 0
  where
    pub some_state : state_of half plan seq ≢ []
    pub some_tx : txs_of half plan seq ≢ []
    pub state_root : IsRoot half State (state_of half plan seq) state
    pub tx_root : IsRoot half Tx (txs_of half plan seq) tx
    pub state_changes : state_sent ≡ map (given half) (changed (nodes_before half plan seq) (state_nodes half plan seq))
    pub tx_changes : tx_sent ≡ map (given half) (changed [] (tx_nodes half plan seq))
    pub nonzero : are_nonzero half (nodes_before half plan seq) ≡ true
    pub is_hash : hash ≡ hash_of_ledger half plan seq

state_tells : (half : Half) (plan : Plan) (seq : ℕ) (state tx : Root) (state_sent tx_sent : List PlacedNode) (hash : Hash)
    → Known half plan seq state tx state_sent tx_sent hash
    → list_all (λ p. is_nonzero p.hash) state_sent ≡ are_nonzero half (state_nodes half plan seq)
state_tells half plan seq state tx state_sent tx_sent hash k =
    ap (list_all (λ (p : PlacedNode). is_nonzero p.hash)) k.state_changes
    ∙ list_all-map (λ (p : PlacedNode). is_nonzero p.hash) (given half)
    (changed (nodes_before half plan seq) (state_nodes half plan seq))
    ∙ nonzero_all half (nodes_before half plan seq) (state_nodes half plan seq) k.nonzero

-- it is made just where these hashes aren't zero
pub made_where : (half : Half) (plan : Plan) (seq : ℕ) (state tx : Root) (state_sent tx_sent : List PlacedNode) (hash : Hash)
    → Known half plan seq state tx state_sent tx_sent hash
    → is_made half plan seq ≡ (list_all (λ p. is_nonzero p.hash) state_sent && list_all (λ p. is_nonzero p.hash) tx_sent
    && is_nonzero hash)
made_where half plan seq state tx state_sent tx_sent hash k =
    let a = state_tells half plan seq state tx state_sent tx_sent hash k in
    let b : list_all (λ p. is_nonzero p.hash) tx_sent ≡ are_nonzero half (tx_nodes half plan seq) =
    ap (list_all (λ (p : PlacedNode). is_nonzero p.hash)) k.tx_changes
    ∙ list_all-map (λ (p : PlacedNode). is_nonzero p.hash) (given half) (changed [] (tx_nodes half plan seq))
    ∙ ap (are_nonzero half) (changed_all (tx_nodes half plan seq)) in
    (λ i. some_entries (state_of half plan seq) k.some_state i && some_entries (txs_of half plan seq) k.some_tx i
    && are_nonzero half (state_nodes half plan seq) && are_nonzero half (tx_nodes half plan seq)
    && is_nonzero (hash_of_ledger half plan seq))
    ∙ (λ i. sym a i && sym b i && is_nonzero (sym k.is_hash i))

-- all state nodes are nonzero where it is made
pub state_made : (half : Half) (plan : Plan) (seq : ℕ) → is_made half plan seq ≡ true → are_nonzero half (state_nodes half plan seq) ≡ true
state_made half plan seq e =
    let s = has_entries (state_of half plan seq) in let t = has_entries (txs_of half plan seq) in
    let n = are_nonzero half (state_nodes half plan seq) in let m = are_nonzero half (tx_nodes half plan seq) in
    (and_parts (s && t) n (and_parts (s && t && n) m (and_parts (s && t && n && m) (is_nonzero (hash_of_ledger half plan seq)) e).0).0).1

-- the ledger as it is sent
pub ledger_is : (half : Half) (plan : Plan) (seq : ℕ) (state tx : Root) (state_sent tx_sent : List PlacedNode) (hash : Hash)
    (header : Bytes) (states txs : List Sent)
    → Known half plan seq state tx state_sent tx_sent hash → header ≡ header_of_ledger half plan seq
    → states ≡ map (sent State) (below state_sent) → txs ≡ map (sent Tx) (below tx_sent)
    → ledger_from (record { seq = seq; hash = hash; header = header; state_root = state.blob; tx_root = tx.blob }) states txs
    ≡ ledger_of half plan seq
ledger_is half plan seq state tx state_sent tx_sent hash header states txs k h s t =
    let s2 : states ≡ sent_of State (below_root (changed (nodes_before half plan seq) (state_nodes half plan seq))) =
    s ∙ ap (λ (x : List PlacedNode). map (sent State) (below x)) k.state_changes
    ∙ sent_is half State (changed (nodes_before half plan seq) (state_nodes half plan seq)) in
    let t2 : txs ≡ sent_of Tx (below_root (tx_nodes half plan seq)) =
    t ∙ ap (λ (x : List PlacedNode). map (sent Tx) (below x)) k.tx_changes ∙ sent_is half Tx (changed [] (tx_nodes half plan seq))
    ∙ ap (λ (x : List Placed). sent_of Tx (below_root x)) (changed_all (tx_nodes half plan seq)) in
    λ i. record {
      seq = seq;
      hash = k.is_hash i;
      header = h i;
      state_root = k.state_root.is_blob i;
      tx_root = k.tx_root.is_blob i;
      state_nodes = s2 i;
      tx_nodes = t2 i;
    }

-- one number more of a list of items
pub map_from_more : {X : Type 0} (items : List (Hash × X)) (entries : List (Hash × X)) (e : Hash × X)
    → map_from items (entries ++ e ∷ []) ≡ (if is_zero e.0 then map_from items entries else insert_in hash_cmp (map_from items entries)
    e.0 e.1)
map_from_more items [] e = refl
map_from_more items (x ∷ entries) e = map_from_more (if is_zero x.0 then items else insert_in hash_cmp items x.0 x.1) entries e

-- a hash of two parts
pub half_of_two : (half : Half) (a b c x y : Bytes) (r : Hash) → r ≡ half (a ++ b ++ c) → a ≡ x → b ≡ y → c ≡ [] → r ≡ half (x ++ y)
half_of_two half a b c x y r e p q n = e ∙ (λ i. half (p i ++ q i ++ n i)) ∙ ap half (append-nil (x ++ y))
