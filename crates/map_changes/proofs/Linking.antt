-- The hash of a link, by the node to which it leads, whatever the number of levels.
use Rattle.std.proofs.Common.{◌≡◌, ℕ, zero, suc, ◌≤◌, List, [], ◌∷◌, ◌++◌, length, map, Option, None, Some, refl, sym, ap, ◌∙◌}
use Rattle.std.proofs.Common.{arith, slice_index_or}
use Rattle.std.specs.List.{flat_map, slice_get, concat, AllByRecursion}
use Rattle.std.specs.Option.{option_map}
use Rattle.std.proofs.lemmas.List.Concat.{concat_is}
use Rattle.std.proofs.lemmas.List.Folds.{flat_map-map}
use Rattle.ledger_spec.specs.declared.Kind.{Kind}
use Rattle.ledger_spec.specs.Bytes.{Bytes, Hash, Half}
use Rattle.ledger_spec.specs.Forms.{leaf_form, inner_prefix, hash_or_zero, hash_of}
use Rattle.cow_map.specs.declared.link.Link.{Link}
use Rattle.cow_map.specs.declared.link.Link.TheVariants.{Empty, Unloaded, Own}
use Rattle.cow_map.specs.Bodies.{Body, leaf, inner, IsBelow, AreBodies}
use Rattle.cow_map.specs.Seals.{form_below, hash_at}
use Rattle.cow_map.proofs.shared.Leading.{weaker, get_within}
use Rattle.map_changes.specs.Tracking.{levels_of, link_hash, node_of, node_at}

-- what is so of the link of each branch is so of all
pub links_all : (P : Link → Type 0) (links : List Link) → ((b : ℕ) → P (slice_index_or links b Empty)) → AllByRecursion P links
links_all P [] f = tt
links_all P (l ∷ links) f = (f zero, links_all P links (λ b. f (suc b)))

pub flat_links : (f g : Link → Bytes) (links : List Link) → AllByRecursion (λ l. f l ≡ g l) links → flat_map f links ≡ flat_map g links
flat_links f g [] h = refl
flat_links f g (l ∷ links) h = λ i. h.0 i ++ flat_links f g links h.1 i

own_levels : (link : Link) → IsBelow (levels_of link) link
own_levels Empty = tt
own_levels (Unloaded h) = tt
own_levels (Own i) = omega arith

module _ (half : Half) (kind : Kind) (nodes : List Body) where
  -- the hash of a node, whose form takes so many levels
  abbrev hash_with : ℕ → Option Body → Hash
  hash_with n o = hash_or_zero half (option_map (form_below half kind nodes n) o)

  body_settles : AreBodies nodes → (a b i : ℕ)
      → ((l : Link) → IsBelow i l → hash_at half kind nodes a l ≡ hash_at half kind nodes b l)
      → (o : Option Body) → slice_get nodes i ≡ o → hash_with (suc a) o ≡ hash_with (suc b) o
  unfolding form_below
  body_settles bodies a b i below None is = refl
  body_settles bodies a b i below (Some (leaf key bytes)) is = refl
  body_settles bodies a b i below (Some (inner links)) is =
      ap (λ (x : Bytes). half (inner_prefix ++ x)) (flat_links (hash_at half kind nodes a) (hash_at half kind nodes b) links
      (links_all (λ l. hash_at half kind nodes a l ≡ hash_at half kind nodes b l) links
      (λ c. below (slice_index_or links c Empty) ((bodies i (inner links) is).1 c))))

  -- more levels than there are nodes below change nothing
  settles : AreBodies nodes → (a b : ℕ) (link : Link) → IsBelow a link → IsBelow b link
      → hash_at half kind nodes a link ≡ hash_at half kind nodes b link
  settles bodies a b Empty in_a in_b = refl
  settles bodies a b (Unloaded h) in_a in_b = refl
  settles bodies zero b (Own i) in_a in_b = absurd (omega arith)
  settles bodies (suc a) zero (Own i) in_a in_b = absurd (omega arith)
  settles bodies (suc a) (suc b) (Own i) in_a in_b =
      body_settles bodies a b i
      (λ l low. settles bodies a b l (weaker i a l (omega arith) low) (weaker i b l (omega arith) low)) (slice_get nodes i) refl

  enough : AreBodies nodes → (n : ℕ) (link : Link) → IsBelow n link → hash_at half kind nodes n link ≡ link_hash half kind nodes link
  unfolding link_hash
  enough bodies n link low = settles bodies n (levels_of link) link low (own_levels link)

  pub leaf_is : (i : ℕ) (key : Hash) (bytes : Bytes) → slice_get nodes i ≡ Some (leaf key bytes)
      → link_hash half kind nodes (Own i) ≡ half (leaf_form kind key bytes)
  unfolding link_hash form_below
  leaf_is i key bytes is = ap (hash_with (suc i)) is

  pub inner_is : AreBodies nodes → (i : ℕ) (links : List Link) → slice_get nodes i ≡ Some (inner links)
      → link_hash half kind nodes (Own i) ≡ half (inner_prefix ++ flat_map (link_hash half kind nodes) links)
  unfolding link_hash form_below
  inner_is bodies i links is =
      ap (hash_with (suc i)) is
      ∙ ap (λ (x : Bytes). half (inner_prefix ++ x)) (flat_links (hash_at half kind nodes i) (link_hash half kind nodes) links
      (links_all (λ l. hash_at half kind nodes i l ≡ link_hash half kind nodes l) links
      (λ c. enough bodies i (slice_index_or links c Empty) ((bodies i (inner links) is).1 c))))

  -- the hashes of an inner node's links, joined
  pub joined_is : (links : List Link) → concat (map (link_hash half kind nodes) links) ≡ flat_map (link_hash half kind nodes) links
  joined_is links = concat_is (map (link_hash half kind nodes) links)
      ∙ flat_map-map (λ (x : Hash). x) (link_hash half kind nodes) links

  -- a node's hash is that of its form
  pub hash_is : AreBodies nodes → (i : ℕ) (body : Body) → slice_get nodes i ≡ Some body
      → link_hash half kind nodes (Own i) ≡ hash_of half (node_at half kind nodes i)
  hash_is bodies i (leaf key bytes) is =
      leaf_is i key bytes is ∙ ap (λ o. hash_of half (node_of kind (link_hash half kind nodes) o)) (sym is)
  hash_is bodies i (inner links) is =
      inner_is bodies i links is ∙ ap (λ (x : Bytes). half (inner_prefix ++ x)) (sym (joined_is links))
      ∙ ap (λ o. hash_of half (node_of kind (link_hash half kind nodes) o)) (sym is)

  zero_grows : (more : List Body) (o : Option Body)
      → hash_or_zero half (option_map (form_below half kind (nodes ++ more) zero) o) ≡ hash_with zero o
  unfolding form_below
  zero_grows more None = refl
  zero_grows more (Some (leaf key bytes)) = refl
  zero_grows more (Some (inner links)) = refl

  body_grows : AreBodies nodes → (more : List Body) (n i : ℕ) → i ≤ length nodes
      → ((l : Link) → IsBelow (length nodes) l → hash_at half kind (nodes ++ more) n l ≡ hash_at half kind nodes n l)
      → (o : Option Body) → slice_get nodes i ≡ o
      → hash_or_zero half (option_map (form_below half kind (nodes ++ more) (suc n)) o) ≡ hash_with (suc n) o
  unfolding form_below
  body_grows bodies more n i low below None is = refl
  body_grows bodies more n i low below (Some (leaf key bytes)) is = refl
  body_grows bodies more n i low below (Some (inner links)) is =
      ap (λ (x : Bytes). half (inner_prefix ++ x)) (flat_links (hash_at half kind (nodes ++ more) n) (hash_at half kind nodes n) links
      (links_all (λ l. hash_at half kind (nodes ++ more) n l ≡ hash_at half kind nodes n l) links
      (λ c. below (slice_index_or links c Empty)
      (weaker i (length nodes) (slice_index_or links c Empty) low ((bodies i (inner links) is).1 c)))))

  -- a longer list changes nothing for a link into the list
  grows : AreBodies nodes → (more : List Body) (n : ℕ) (link : Link) → IsBelow (length nodes) link
      → hash_at half kind (nodes ++ more) n link ≡ hash_at half kind nodes n link
  grows bodies more n Empty low = refl
  grows bodies more n (Unloaded h) low = refl
  grows bodies more zero (Own i) low =
      ap (λ o. hash_or_zero half (option_map (form_below half kind (nodes ++ more) zero) o)) (get_within nodes more i low)
      ∙ zero_grows more (slice_get nodes i)
  grows bodies more (suc n) (Own i) low =
      ap (λ o. hash_or_zero half (option_map (form_below half kind (nodes ++ more) (suc n)) o)) (get_within nodes more i low)
      ∙ body_grows bodies more n i (omega arith) (λ l in_nodes. grows bodies more n l in_nodes) (slice_get nodes i) refl

  pub link_grows : AreBodies nodes → (more : List Body) (link : Link) → IsBelow (length nodes) link
      → link_hash half kind (nodes ++ more) link ≡ link_hash half kind nodes link
  unfolding link_hash
  link_grows bodies more link low = grows bodies more (levels_of link) link low
