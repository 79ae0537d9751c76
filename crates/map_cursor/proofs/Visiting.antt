-- A visit of a place and of the places below it.
use Rattle.std.proofs.Common.{◌≡◌, ◌≤◌, ◌<◌, ◌+◌, ◌-◌, ◌||◌, ◌==◌, ℕ, zero, suc, Bool, true, false, List, [], ◌∷◌, ◌++◌}
use Rattle.std.proofs.Common.{length, IsTrue, Option, None, Some, Result, Ok, Err, IsErr, IsErrAnd, IfErr, refl, sym, ap, ◌∙◌, subst}
use Rattle.std.proofs.Common.{arith, length-append}
use Rattle.std.proofs.lemmas.List.{append-nil, append_assoc, length-map}
use Rattle.std.specs.List.{range_with_len, slice_index_or}
use Rattle.ledger_spec.specs.declared.Kind.{Kind}
use Rattle.ledger_spec.specs.Bytes.{Hash, Half, Lookup, Items, zero_hash, is_zero}
use Rattle.ledger_spec.specs.Forms.{Held, inner, leaf, header}
use Rattle.ledger_spec.specs.Reads.{inner_hashes}
use Rattle.ledger_spec.specs.Pages.{Heard, said, wants, wrong, Reading, go_on, followed_by, in_turn, is_skipped, is_passed, page_from}
use Rattle.ledger_spec.specs.Pages.{IsStoredNode}
use Rattle.tree_laws.proofs.shared.Orders.{all_append}
use Rattle.tree_laws.proofs.shared.Shapes.{above_bottom}
use Rattle.path_proof.specs.declared.answer.ReadFault.{ReadFault}
use Rattle.path_proof.specs.declared.answer.ReadFault.TheVariants.{Fault, Memory}
use Rattle.path_proof.specs.Sources.{Holds}
use Rattle.path_proof.specs.Ways.{Fits, Ends}
use Rattle.std.specs.declared.sync.Arc.{Arc}
use Rattle.std.specs.declared.alloc.Global.{Global}
use Rattle.shamap_node.specs.declared.Node.{Node}
use Rattle.shamap_node.specs.Nodes.{held}
use Rattle.map_cursor.specs.Shown.{Shown, items_in, entry_of, added_by, Takes}
use Rattle.map_cursor.specs.Visits.{Visited, Refused, Visits, branch_reading}
use Rattle.map_cursor.proofs.Places.{skipped, wanted, leaf_said, inner_said, no_items, stored_node, held_then, ends_then}

module _ (half : Half) (kind : Kind) (tells : Bool) (nodes : Lookup) where
  -- an error that is handed on
  pub handed_on : {X : Type 0} (reading : Reading) (most : ℕ) (s t : Shown) (r : Result X ReadFault) (e : ReadFault) → IsErr r
      × IsErrAnd r (λ f. f ≡ e) → Refused half kind tells nodes reading (most - length s.items) e
      → Visits half kind tells nodes reading most s t r
  handed_on reading most s t (Ok x) e gives refused = absurd gives.1
  handed_on reading most s t (Err f) e gives refused =
      subst (Refused half kind tells nodes reading (most - length s.items)) (sym gives.1) refused

  -- nothing is done
  pub nothing_done : (reading : Reading) (most : ℕ) (s : Shown)
      → ((rest : List Held) → reading (most - length s.items) rest ≡ said [] rest) → Visited half tells nodes reading most s s
  nothing_done reading most s heard =
      record {
        items = [];
        more = [];
        items_are = sym (append-nil s.items);
        used_are = sym (append-nil s.used);
        heard = heard;
        stored =
            λ told. tt;
      }

  module _ (after : Hash) (l : ℕ) (p : Option (List Hash)) (path : List ℕ) (h : Hash) (most : ℕ) (s : Shown) where
    pub skip_visited : true ≡ is_skipped after path h (most - length s.items)
        → Visited half tells nodes (page_from half kind after l p path h) most s s
    skip_visited is = nothing_done (page_from half kind after l p path h) most s
        (λ rest. skipped half kind after l p path h (most - length s.items) rest (sym is))

    pub place_refused : (fault : ReadFault) → false ≡ is_skipped after path h (most - length s.items)
        → Ends half kind tells nodes p path h fault
        → Refused half kind tells nodes (page_from half kind after l p path h) (most - length s.items) fault
    place_refused _ is ends = record {
      more = [];
      above = p;
      path = path;
      hash = h;
      heard = wanted half kind after l p path h (most - length s.items) (sym is);
      stored = λ told. tt;
      ends = ends;
    }

    pub memory_refused : (fault : ReadFault) → false ≡ is_skipped after path h (most - length s.items) → fault ≡ Memory
        → Refused half kind tells nodes (page_from half kind after l p path h) (most - length s.items) fault
    memory_refused fault is e = place_refused fault is (subst (Ends half kind tells nodes p path h) (sym e) tt)

    pub leaf_visited : (x : Held) (t : Shown) → false ≡ is_skipped after path h (most - length s.items) → Fits half kind p path h x
        → (IsTrue tells → Holds half (nodes h) x) → Takes after x s t None
        → Visited half tells nodes (page_from half kind after l p path h) most s t
    leaf_visited x t is fits holds takes = record {
      items = added_by after x;
      more = x ∷ [];
      items_are = takes.items;
      used_are = takes.used;
      heard = λ rest. leaf_said half kind after l p path h (most - length s.items) x rest (sym is) fits takes.below_is;
      stored = λ told. (stored_node half nodes h x fits.hash (holds told), tt);
    }

  -- an inner node, and then what is below it
  module _ (now : Lookup) (same : IsTrue tells → now ≡ nodes) (after : Hash) (left l : ℕ) (p : Option (List Hash)) (path : List ℕ)
      (h : Hash) (most : ℕ) (s t : Shown) (x : Held) (hashes : List Hash) (level : left ≡ suc l)
      (is : false ≡ is_skipped after path h (most - length s.items)) (fits : Fits half kind p path h x)
      (holds : IsTrue tells → Holds half (nodes h) x) (takes : Takes after x s t (Some hashes)) where
    abbrev below : Reading
    below = in_turn (branch_reading half kind after l hashes path) (range_with_len 0 16)

    same_items : t.items ≡ s.items
    same_items = takes.items ∙ ap (λ i. s.items ++ i) (no_items after x hashes takes.below_is) ∙ append-nil s.items

    first_said : (n : ℕ) (rest : List Held) → n ≡ most - length s.items
        → page_from half kind after left p path h n (x ∷ rest) ≡ below n rest
    first_said n rest e =
        ap (λ m. page_from half kind after m p path h n (x ∷ rest)) level
        ∙ inner_said half kind after l p path h n x hashes rest (ap (is_skipped after path h) e ∙ sym is) fits takes.below_is

    pub inner_visited : (u : Shown) → Visited half tells now below most t u
        → Visited half tells nodes (page_from half kind after left p path h) most s u
    inner_visited u v = record {
      items = v.items;
      more = x ∷ v.more;
      items_are = v.items_are ∙ ap (λ i. i ++ v.items) same_items;
      used_are = v.used_are ∙ ap (λ i. i ++ v.more) takes.used ∙ append_assoc s.used (x ∷ []) v.more;
      heard = λ rest. first_said (most - length s.items) (v.more ++ rest) refl
          ∙ ap (λ i. below (most - length i) (v.more ++ rest)) (sym same_items) ∙ v.heard rest;
      stored = λ told. (stored_node half nodes h x fits.hash (holds told), held_then half tells nodes now v.more same v.stored told);
    }

    pub inner_refused : (fault : ReadFault) → Refused half kind tells now below (most - length t.items) fault
        → Refused half kind tells nodes (page_from half kind after left p path h) (most - length s.items) fault
    inner_refused fault r = record {
      more = x ∷ r.more;
      above = r.above;
      path = r.path;
      hash = r.hash;
      heard = first_said (most - length s.items) r.more refl ∙ ap (λ i. below (most - length i) r.more) (sym same_items) ∙ r.heard;
      stored = λ told. (stored_node half nodes h x fits.hash (holds told), held_then half tells nodes now r.more same r.stored told);
      ends = ends_then half kind tells nodes now r.above r.path r.hash fault same r.ends;
    }

-- one place more
go_said : (next : Items → List Held → Heard) (o : Heard) (items : Items) (rest : List Held) → o ≡ said items rest
    → go_on next o ≡ next items rest
go_said next o items rest e = ap (go_on next) e

turn_more : (each : ℕ → Reading) (bs : List ℕ) (b : ℕ) (ys : List ℕ) (n : ℕ) (used mid : List Held) (items : Items)
    → in_turn each bs n used ≡ said items mid
    → in_turn each (bs ++ b ∷ ys) n used ≡ followed_by items (in_turn each (b ∷ ys) (n - length items) mid)
turn_more each [] b ys n used mid items e =
    let nothing : [] ≡ items = cc in
    let same : used ≡ mid = cc in
    let all : n ≡ n - length {A = Rattle.ledger_spec.specs.Tree.Entry} [] = omega arith in
    ap (in_turn each (b ∷ ys) n) same ∙ ap (λ m. in_turn each (b ∷ ys) m mid) all
    ∙ plain (in_turn each (b ∷ ys) (n - length {A = Rattle.ledger_spec.specs.Tree.Entry} []) mid)
    ∙ ap (λ i. followed_by i (in_turn each (b ∷ ys) (n - length i) mid)) nothing
  where
    plain : (o : Heard) → o ≡ followed_by [] o
    plain (said items rest) = refl
    plain (wants p path h) = refl
    plain wrong = refl
turn_more each (c ∷ bs) b ys n used mid items e = by_first (each c n used) (λ i r e'. turn_more each bs b ys (n - length i) r mid) e
  where
    twice : (i j : Items) (o : Heard) → followed_by i (followed_by j o) ≡ followed_by (i ++ j) o
    twice i j (said k rest) = ap (λ l. said l rest) (sym (append_assoc i j k))
    twice i j (wants p path h) = refl
    twice i j wrong = refl

    by_rest : (i : Items) (o q : Heard)
        → ((j : Items) → o ≡ said j mid → q ≡ followed_by j (in_turn each (b ∷ ys) (n - length i - length j) mid))
        → followed_by i o ≡ said items mid
        → followed_by i q ≡ followed_by items (in_turn each (b ∷ ys) (n - length items) mid)
    by_rest i (said j rest) q go e =
        let joined : i ++ j ≡ items = cc in
        let same : rest ≡ mid = cc in
        let less : n - length i - length j ≡ n - length (i ++ j) = omega (arith, length-append i j) in
        ap (followed_by i) (go j (ap (said j) same)) ∙ twice i j (in_turn each (b ∷ ys) (n - length i - length j) mid)
        ∙ ap (λ m. followed_by (i ++ j) (in_turn each (b ∷ ys) m mid)) less
        ∙ ap (λ k. followed_by k (in_turn each (b ∷ ys) (n - length k) mid)) joined
    by_rest i (wants p path h) q go e = let no : wants p path h ≡ said items mid = e in cc
    by_rest i wrong q go e = let no : wrong ≡ said items mid = e in cc

    by_first : (o : Heard)
        → ((i : Items) (r : List Held) → o ≡ said i r → (j : Items) → in_turn each bs (n - length i) r ≡ said j mid
        → in_turn each (bs ++ b ∷ ys) (n - length i) r ≡ followed_by j (in_turn each (b ∷ ys) (n - length i - length j) mid))
        → go_on (λ i r. followed_by i (in_turn each bs (n - length i) r)) o ≡ said items mid
        → go_on (λ i r. followed_by i (in_turn each (bs ++ b ∷ ys) (n - length i) r)) o
        ≡ followed_by items (in_turn each (b ∷ ys) (n - length items) mid)
    by_first (said i r) go e = by_rest i (in_turn each bs (n - length i) r) (in_turn each (bs ++ b ∷ ys) (n - length i) r) (go i r refl) e
    by_first (wants p path h) go e = let no : wants p path h ≡ said items mid = e in cc
    by_first wrong go e = let no : wrong ≡ said items mid = e in cc

range_split : (a n m : ℕ) → range_with_len a (n + suc m) ≡ range_with_len a n ++ (a + n) ∷ range_with_len (a + n + 1) m
range_split a zero m =
    let whole : 0 + suc m ≡ suc m = omega arith in
    let at : a ≡ a + 0 = omega arith in
    ap (range_with_len a) whole ∙ ap (λ b. b ∷ range_with_len (b + 1) m) at
range_split a (suc n) m =
    let whole : suc n + suc m ≡ suc (n + suc m) = omega arith in
    let at : a + 1 + n ≡ a + suc n = omega arith in
    ap (range_with_len a) whole ∙ ap (λ l. a ∷ l) (range_split (a + 1) n m)
    ∙ ap (λ b. a ∷ (range_with_len (a + 1) n ++ b ∷ range_with_len (b + 1) m)) at

module _ (half : Half) (kind : Kind) (tells : Bool) (nodes now : Lookup) (same : IsTrue tells → now ≡ nodes) (each : ℕ → Reading)
    (most b : ℕ) (s t : Shown)
    (before : Visited half tells nodes (in_turn each (range_with_len 0 b)) most s t) where
  -- how many more are wanted
  fewer : most - length t.items ≡ most - length s.items - length before.items
  fewer = omega (arith, ap length before.items_are, length-append s.items before.items)

  pub branch_visited : (reading : Reading) → reading ≡ each b → (u : Shown) → Visited half tells now reading most t u
      → Visited half tells nodes (in_turn each (range_with_len 0 (b + 1))) most s u
  branch_visited reading is u w =
      let v : Visited half tells now (each b) most t u = subst (λ r. Visited half tells now r most t u) is w in
      let one : b + 1 ≡ b + suc 0 = omega arith in
      let at : 0 + b ≡ b = omega arith in
      let range : range_with_len 0 (b + 1) ≡ range_with_len 0 b ++ b ∷ [] = ap (range_with_len 0) one ∙ range_split 0 b 0
      ∙ ap (λ c. range_with_len 0 b ++ c ∷ []) at in
      record {
        items = before.items ++ v.items;
        more = before.more ++ v.more;
        items_are = v.items_are ∙ ap (λ i. i ++ v.items) before.items_are ∙ append_assoc s.items before.items v.items;
        used_are = v.used_are ∙ ap (λ i. i ++ v.more) before.used_are ∙ append_assoc s.used before.more v.more;
        heard = λ rest.
            ap (λ l. in_turn each l (most - length s.items) (before.more ++ v.more ++ rest)) range
            ∙ ap (in_turn each (range_with_len 0 b ++ b ∷ []) (most - length s.items)) (append_assoc before.more v.more rest)
            ∙ turn_more each (range_with_len 0 b) b [] (most - length s.items) (before.more ++ (v.more ++ rest)) (v.more ++ rest)
            before.items (before.heard (v.more ++ rest))
            ∙ ap (λ n. followed_by before.items (in_turn each (b ∷ []) n (v.more ++ rest))) (sym fewer)
            ∙ ap (λ o. followed_by before.items (go_on (λ i r. followed_by i (said [] r)) o)) (v.heard rest)
            ∙ ap (λ i. said (before.items ++ i) rest) (append-nil v.items);
        stored = λ told. all_append (IsStoredNode half nodes) before.more v.more (before.stored told)
            (held_then half tells nodes now v.more same v.stored told);
      }

  pub branch_refused : (reading : Reading) → reading ≡ each b → b < 16 → (fault : ReadFault)
      → Refused half kind tells now reading (most - length t.items) fault
      → Refused half kind tells nodes (in_turn each (range_with_len 0 16)) (most - length s.items) fault
  branch_refused reading is low fault w =
      let r : Refused half kind tells now (each b) (most - length t.items) fault =
      subst (λ q. Refused half kind tells now q (most - length t.items) fault) is w in
      let count : 16 ≡ b + suc (15 - b) = omega arith in
      let at : 0 + b ≡ b = omega arith in
      let range : range_with_len 0 16 ≡ range_with_len 0 b ++ b ∷ range_with_len (b + 1) (15 - b) =
      ap (range_with_len 0) count ∙ range_split 0 b (15 - b) ∙ ap (λ c. range_with_len 0 b ++ c ∷ range_with_len (c + 1) (15 - b)) at
      in
      record {
        more = before.more ++ r.more;
        above = r.above;
        path = r.path;
        hash = r.hash;
        heard =
            ap (λ l. in_turn each l (most - length s.items) (before.more ++ r.more)) range
            ∙ turn_more each (range_with_len 0 b) b (range_with_len (b + 1) (15 - b)) (most - length s.items) (before.more ++ r.more)
            r.more before.items (before.heard r.more)
            ∙ ap (λ n. followed_by before.items (in_turn each (b ∷ range_with_len (b + 1) (15 - b)) n r.more)) (sym fewer)
            ∙ ap (λ o. followed_by before.items
            (go_on (λ i q. followed_by i (in_turn each (range_with_len (b + 1) (15 - b)) (most - length t.items - length i) q)) o))
            r.heard;
        stored = λ told. all_append (IsStoredNode half nodes) before.more r.more (before.stored told)
            (held_then half tells nodes now r.more same r.stored told);
        ends = ends_then half kind tells nodes now r.above r.path r.hash fault same r.ends;
      }

-- the reading of a branch
pub reading_is : (half : Half) (kind : Kind) (after : Hash) (hashes : List Hash) (path below : List ℕ) (b : ℕ) (h : Hash)
    → length path < 64 → below ≡ path ++ b ∷ [] → h ≡ slice_index_or hashes b zero_hash
    → page_from half kind after (64 - length below) (Some hashes) below h ≡ branch_reading half kind after (63 - length path) hashes path b
reading_is half kind after hashes path below b h up place hash =
    let level : 64 - length below ≡ 63 - length path = omega (arith, ap length place, length-append path (b ∷ [])) in
    ap (λ l. page_from half kind after l (Some hashes) below h) level
    ∙ ap (λ q. page_from half kind after (63 - length path) (Some hashes) q h) place
    ∙ ap (page_from half kind after (63 - length path) (Some hashes) (path ++ b ∷ [])) hash

or_true : (t : Bool) → (t || true) ≡ true
or_true true = refl
or_true false = refl

-- an empty branch is skipped
pub zero_skipped : (after : Hash) (path : List ℕ) (h : Hash) (n : ℕ) → is_zero h ≡ true → true ≡ is_skipped after path h n
zero_skipped after path h n empty = sym (ap (λ z. (n == 0) || (z || is_passed after path)) empty ∙ or_true (n == 0))

-- the test of what is skipped, by the leaves that the page has
pub skip_is : (t r : Bool) (after : Hash) (path : List ℕ) (h : Hash) (most len : ℕ) (leaves : List (Arc Node Global)) → r ≡ t
    → r ≡ is_skipped after path h (most - len) → len ≡ length leaves
    → t ≡ is_skipped after path h (most - length (items_in leaves))
skip_is t r after path h most len leaves is says size =
    let same : most - len ≡ most - length (items_in leaves) =
    omega (arith, size, length-map leaves (λ (a : Arc Node Global). entry_of (held a.value))) in
    sym is ∙ says ∙ ap (is_skipped after path h) same

-- want of memory is no fault
pub no_fault : {X : Type 0} (r : Result X ReadFault) (e : ReadFault) (P : Type 0) → IsErr r × IsErrAnd r (λ f. f ≡ e) → e ≡ Memory
    → IfErr r (λ f. f ≡ Fault → P)
no_fault (Ok x) e P gives is = tt
no_fault (Err f) e P gives is = λ fault. let clash : Memory ≡ Fault = sym is ∙ sym gives.1 ∙ fault in cc

-- an inner node stands above the bottom
pub level_of : (half : Half) (kind : Kind) (p : Option (List Hash)) (path : List ℕ) (h : Hash) (x : Held) (hashes : List Hash)
    → length path ≤ 64 → Fits half kind p path h x → Some hashes ≡ inner_hashes x
    → 64 - length path ≡ suc (63 - length path)
level_of half kind p path h (inner own) hashes within fits e = let up : length path < 64 =
    above_bottom kind own p path within fits.rules in omega arith
level_of half kind p path h (leaf k key bytes) hashes within fits e = let no : Some hashes ≡ None = e in cc
level_of half kind p path h (header bytes) hashes within fits e = let no : Some hashes ≡ None = e in cc
