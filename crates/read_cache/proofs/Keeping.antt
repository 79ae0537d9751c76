-- The nodes of a shard as its shared entries change, and that each stays under its own hash.
use Rattle.std.proofs.Common.{◌≡◌, ⊎_elim, ℕ, zero, suc, ◌-◌, Bool, true, false, cond, List, [], ◌∷◌, map, take}
use Rattle.std.proofs.Common.{Option, None, Some, refl, sym, ap, ◌∙◌}
use Rattle.std.specs.List.{All, Contains}
use Rattle.std.specs.Option.{option_map, option_map_or}
use Rattle.std.specs.Map.{lookup, lookup_entry, remove_entry}
use Rattle.std.specs.Cmp.Lexicographic.{bytes_decides}
use Rattle.std.proofs.lemmas.List.Elements.{All-contains, All-weaker, All-contains_itself}
use Rattle.ledger_spec.specs.Bytes.{Hash, Half, same_bytes}
use Rattle.ledger_spec.specs.Forms.{hash_of}
use Rattle.shamap_node.specs.declared.Node.{Node}
use Rattle.shamap_node.specs.Nodes.{held}
use Rattle.lru.specs.LruCache.{LruCache, lru_cache, promoted, put_entries}
use Rattle.lru.proofs.CallerLemmas.{Contains-lookup, Contains-promoted, Contains-put_entries}
use Rattle.std.specs.declared.sync.Arc.{Arc}
use Rattle.std.specs.declared.alloc.Global.{Global}
use Rattle.read_cache.specs.Shards.{Kept, kept_in, AreOwn, capacity, with_node}

module _ {K V W : Type 0} (f : V → W) where
  -- each value's image under its key
  abbrev pub over : List (K × V) → List (K × W)
  over es = map (λ e. (e.0, f e.1)) es

  -- a look-up, the way to the front and a put are the same before and after
  pub over_lookup : (test : K → Bool) (es : List (K × V)) → lookup test (over es) ≡ option_map f (lookup test es)
  over_lookup test [] = refl
  over_lookup test (e ∷ es) = by (test e.0) (over_lookup test es)
    where
      by : (b : Bool) → lookup test (over es) ≡ option_map f (lookup test es)
          → cond b (Some (f e.1)) (lookup test (over es)) ≡ option_map f (cond b (Some e.1) (lookup test es))
      by true rest = refl
      by false rest = rest

  over_entry : (test : K → Bool) (es : List (K × V))
      → lookup_entry test (over es) ≡ option_map (λ e. (e.0, f e.1)) (lookup_entry test es)
  over_entry test [] = refl
  over_entry test (e ∷ es) = by (test e.0) (over_entry test es)
    where
      by : (b : Bool) → lookup_entry test (over es) ≡ option_map (λ x. (x.0, f x.1)) (lookup_entry test es)
          → cond b (Some (e.0, f e.1)) (lookup_entry test (over es))
          ≡ option_map (λ x. (x.0, f x.1)) (cond b (Some e) (lookup_entry test es))
      by true rest = refl
      by false rest = rest

  over_remove : (test : K → Bool) (es : List (K × V)) → remove_entry test (over es) ≡ over (remove_entry test es)
  over_remove test [] = refl
  over_remove test (e ∷ es) = by (test e.0) (over_remove test es)
    where
      by : (b : Bool) → remove_entry test (over es) ≡ over (remove_entry test es)
          → cond b (over es) ((e.0, f e.1) ∷ remove_entry test (over es)) ≡ over (cond b es (e ∷ remove_entry test es))
      by true rest = refl
      by false rest = λ i. (e.0, f e.1) ∷ rest i

  over_take : (n : ℕ) (es : List (K × V)) → take n (over es) ≡ over (take n es)
  over_take zero es = refl
  over_take (suc n) [] = refl
  over_take (suc n) (e ∷ es) = λ i. (e.0, f e.1) ∷ over_take n es i

  -- what a found entry leads to, and what none does
  by_entry : {X Y : Type 0} (test : K → Bool) (es : List (K × V)) (g : K × W → Y) (d : Y) (g' : K × V → X) (d' : X) (h : X → Y)
      → ((e : K × V) → g (e.0, f e.1) ≡ h (g' e)) → d ≡ h d'
      → option_map_or g (lookup_entry test (over es)) d ≡ h (option_map_or g' (lookup_entry test es) d')
  by_entry {X} {Y} test es g d g' d' h some none =
      ap (λ (o : Option (K × W)). option_map_or g o d) (over_entry test es) ∙ at (lookup_entry test es)
    where
      at : (o : Option (K × V)) → option_map_or g (option_map (λ e. (e.0, f e.1)) o) d ≡ h (option_map_or g' o d')
      at None = none
      at (Some e) = some e

  pub over_promoted : (test : K → Bool) (es : List (K × V)) → promoted test (over es) ≡ over (promoted test es)
  over_promoted test es =
      by_entry test es (λ e. e ∷ remove_entry test (over es)) (over es) (λ e. e ∷ remove_entry test es) es over
      (λ e i. (e.0, f e.1) ∷ over_remove test es i) refl

  pub over_put : (eq : K → K → Bool) (es : List (K × V)) (cap : ℕ) (k : K) (v : V)
      → put_entries eq (lru_cache (over es) cap) k (f v) ≡ over (put_entries eq (lru_cache es cap) k v)
  over_put eq es cap k v =
      by_entry (eq k) es (λ e. (e.0, f v) ∷ remove_entry (eq k) (over es)) ((k, f v) ∷ take (cap - 1) (over es))
      (λ e. (e.0, v) ∷ remove_entry (eq k) es) ((k, v) ∷ take (cap - 1) es) over
      (λ e i. (e.0, f v) ∷ over_remove (eq k) es i) (λ i. (k, f v) ∷ over_take (cap - 1) es i)

none_entry : {K V : Type 0} (test : K → Bool) (es : List (K × V)) → lookup test es ≡ None → lookup_entry test es ≡ None
none_entry test [] is = refl
none_entry test (e ∷ es) is = by (test e.0) (none_entry test es) is
  where
    by : (b : Bool) → (lookup test es ≡ None → lookup_entry test es ≡ None) → cond b (Some e.1) (lookup test es) ≡ None
        → cond b (Some e) (lookup_entry test es) ≡ None
    by true rest is = absurd (let no : Some e.1 ≡ None = is in cc)
    by false rest is = rest is

-- where no entry is found none goes to the front
pub none_promoted : {K V : Type 0} (test : K → Bool) (es : List (K × V)) → lookup test es ≡ None → promoted test es ≡ es
none_promoted test es is = ap (λ o. option_map_or (λ e. e ∷ remove_entry test es) o es) (none_entry test es is)

-- what holds of each element holds of all
each_all : {X : Type 0} (P : X → Type 0) (xs : List X) → ((x : X) → Contains xs x → P x) → All P xs
each_all P xs each = All-weaker (Contains xs) P each xs (All-contains_itself xs)

module _ (half : Half) where
  -- an entry's node has the entry's hash
  abbrev IsOwn : Hash × Node → Type 0
  IsOwn e = hash_of half (held e.1) ≡ e.0

  -- a node that is found has the hash under which it was looked for
  pub found_own : (kept : Kept) (h : Hash) (n : Node) → AreOwn half kept → lookup (same_bytes h) kept ≡ Some n
      → hash_of half (held n) ≡ h
  found_own kept h n own is =
      let at = Contains-lookup (same_bytes h) kept n is in
      All-contains IsOwn kept (at.0, n) own at.1 ∙ sym ((bytes_decides h at.0).0 at.2)

  -- each stays under its own hash
  pub promoted_own : (kept : Kept) (h : Hash) → AreOwn half kept → AreOwn half (promoted (same_bytes h) kept)
  promoted_own kept h own =
      each_all IsOwn (promoted (same_bytes h) kept)
      (λ e among. All-contains IsOwn kept e own (Contains-promoted (same_bytes h) kept e among))

  pub put_own : (kept : Kept) (n : Node) → AreOwn half kept → AreOwn half (with_node half n kept)
  put_own kept n own =
      each_all IsOwn (with_node half n kept)
      (λ e among. ⊎_elim (λ was. All-contains IsOwn kept e own was)
      (λ put. ⊎_elim (λ key. ap (λ (x : Node). hash_of half (held x)) put.0 ∙ sym key)
      (λ old. ap (λ (x : Node). hash_of half (held x)) put.0 ∙ (bytes_decides (hash_of half (held n)) e.0).0 old.2) put.1)
      (Contains-put_entries same_bytes (lru_cache kept capacity) (hash_of half (held n)) n e among))

-- what a put of a shared node under its own hash leaves
pub after_put : (half : Half) (old new : LruCache Hash (Arc Node Global)) (h : Hash) (node : Arc Node Global) → old.cap ≡ capacity
    → h ≡ hash_of half (held node.value) → new ≡ lru_cache (put_entries same_bytes old h node) old.cap
    → kept_in new.entries ≡ with_node half node.value (kept_in old.entries)
after_put half old new h node size is put =
    ap (λ (x : LruCache Hash (Arc Node Global)). kept_in x.entries) put
    ∙ sym (over_put (λ a. a.value) same_bytes old.entries old.cap h node)
    ∙ ap (λ (n : ℕ). put_entries same_bytes (lru_cache (kept_in old.entries) n) h node.value) size
    ∙ ap (λ (k : Hash). put_entries same_bytes (lru_cache (kept_in old.entries) capacity) k node.value) is
