-- Where a map of links stands for entries and leaves nothing to a source, its entries are those that its links reach.
use Rattle.std.proofs.Common.{◌≡◌, ℕ, zero, suc, List, [], ◌∷◌, ◌++◌, refl}
use Rattle.std.proofs.Common.{sym, ap, ◌∙◌, arith, slice_index_or}
use Rattle.std.specs.List.{flat_map, slice_get}
use Rattle.ledger_spec.specs.declared.Kind.{Kind}
use Rattle.ledger_spec.specs.Bytes.{Bytes, Hash, Half}
use Rattle.ledger_spec.specs.Tree.{Entry}
use Rattle.cow_map.specs.declared.link.Link.{Link}
use Rattle.cow_map.specs.declared.link.Link.TheVariants.{Empty, Unloaded, Own}
use Rattle.cow_map.specs.Bodies.{Body}
use Rattle.cow_map.specs.Gathered.{nothing_held}
use Rattle.cow_map.specs.Trees.{Found, none, one, fork, lacks, breaks, Holds}
use Rattle.cow_map.proofs.shared.Leading.{body_none}
use Rattle.cow_map.proofs.shared.Standing.{Below, stands_into}
use Rattle.cow_map.proofs.shared.Sealing.{by_index, flat_each}
use Rattle.map_changes.specs.Tracking.{entries_in, entries_by, entries_at}
use Rattle.map_changes.proofs.Hashed.{found, Stands, one_link, fork_link}

module _ (half : Half) (kind : Kind) (nodes : List Body) where
  -- the entries that are reached from one node
  none_entries : (below : Link → List Entry) (path : List ℕ) (link : Link) → found half kind nodes path link ≡ none
      → entries_by nodes below link ≡ []
  none_entries below path Empty e = refl
  none_entries below path (Unloaded h) e = refl
  none_entries below path (Own i) e = ap (entries_in below) (body_none path (slice_get nodes i) e)

  one_entries : (below : Link → List Entry) (path : List ℕ) (link : Link) (key : Hash) (bytes : Bytes)
      → found half kind nodes path link ≡ one key bytes → entries_by nodes below link ≡ (key, bytes) ∷ []
  one_entries below path link key bytes e =
      let is = one_link half kind nodes path link key bytes e in ap (entries_by nodes below) is.1 ∙ ap (entries_in below) is.2

  fork_entries : (below : Link → List Entry) (path : List ℕ) (link : Link) (links : List Link)
      → found half kind nodes path link ≡ fork links → entries_by nodes below link ≡ flat_map below links
  fork_entries below path link links e =
      let is = fork_link half kind nodes path link links e in ap (entries_by nodes below) is.1 ∙ ap (entries_in below) is.2

  entries_zero : (path : List ℕ) (link : Link) (items : List Entry) (f : Found) → found half kind nodes path link ≡ f
      → Holds (Below half nothing_held kind nodes zero path) path f items → items ≡ entries_by nodes (λ l. []) link
  entries_zero path link items none e h = h ∙ sym (none_entries (λ l. []) path link e)
  entries_zero path link items (one key bytes) e h = h.alone ∙ sym (one_entries (λ l. []) path link key bytes e)
  entries_zero path link items (fork links) e h = absurd (h.each 0 (omega arith))
  entries_zero path link items (lacks g) e h = absurd h
  entries_zero path link items (breaks fault) e h = absurd h

  entries_suc : (left : ℕ)
      → ((path : List ℕ) (link : Link) (items : List Entry) → Stands half kind nodes left path link items
      → items ≡ entries_at nodes left link)
      → (path : List ℕ) (link : Link) (items : List Entry) (f : Found) → found half kind nodes path link ≡ f
      → Holds (Below half nothing_held kind nodes (suc left) path) path f items → items ≡ entries_by nodes (entries_at nodes left) link
  entries_suc left more path link items none e h = h ∙ sym (none_entries (entries_at nodes left) path link e)
  entries_suc left more path link items (one key bytes) e h = h.alone ∙ sym (one_entries (entries_at nodes left) path link key bytes e)
  entries_suc left more path link items (fork links) e h =
      h.joined
      ∙ flat_each h.kids (λ b. entries_at nodes left (slice_index_or links b Empty))
      (λ b low. more (path ++ b ∷ []) (slice_index_or links b Empty) (h.kids b) (h.each b low))
      ∙ sym (by_index (entries_at nodes left) Empty links h.width) ∙ sym (fork_entries (entries_at nodes left) path link links e)
  entries_suc left more path link items (lacks g) e h = absurd h
  entries_suc left more path link items (breaks fault) e h = absurd h

  -- what a link stands for are the entries that it reaches
  pub entries_law : (left : ℕ) (path : List ℕ) (link : Link) (items : List Entry) → Stands half kind nodes left path link items
      → items ≡ entries_at nodes left link
  unfolding entries_at
  entries_law zero path link items stands =
      entries_zero path link items (found half kind nodes path link) refl
      (stands_into half nothing_held kind nodes zero path link items (found half kind nodes path link) refl stands)
  entries_law (suc left) path link items stands =
      entries_suc left (entries_law left) path link items (found half kind nodes path link) refl
      (stands_into half nothing_held kind nodes (suc left) path link items (found half kind nodes path link) refl stands)
