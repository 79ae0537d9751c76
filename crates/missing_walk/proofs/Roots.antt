-- The beginning of a search at its header: what is found where none is held, and that the rest is found at the two roots.
use Rattle.std.proofs.Common.{◌≡◌, Bool, true, false, is_some, if◌then◌else◌, [], ◌∷◌, ◌++◌, length, Option, None}
use Rattle.std.proofs.Common.{Some}
use Rattle.std.proofs.Common.{◌≤◌, refl, sym, ap, ◌∙◌, subst, arith}
use Rattle.std.specs.Prelude.{reverse}
use Rattle.std.specs.Option.{option_and_then}
use Rattle.ledger_spec.specs.declared.Kind.{Kind}
use Rattle.ledger_spec.specs.declared.Kind.TheVariants.{State, Tx}
use Rattle.ledger_spec.specs.declared.Place.TheVariants.{Header as HeaderPlace}
use Rattle.ledger_spec.specs.declared.ShapeFault.TheVariants.{Foreign}
use Rattle.ledger_spec.specs.Bytes.{Bytes, Hash, Half, Lookup, is_zero}
use Rattle.ledger_spec.specs.Header.{header_bytes, state_root_of, tx_root_of}
use Rattle.ledger_spec.specs.Forms.{header, header_of}
use Rattle.ledger_spec.specs.Spots.{header_in}
use Rattle.ledger_spec.specs.Findings.{sound, lacks, breaks, findings, header_sight, header_or_foreign}
use Rattle.ledger_header.specs.declared.Header.{Header}
use Rattle.ledger_header.specs.Fields.{fields, Reads}
use Rattle.tree_laws.specs.Walks.{found_below}
use Rattle.tree_laws.proofs.shared.Below.{below_zero}
use Rattle.missing_walk.specs.declared.Found.{Found}
use Rattle.missing_walk.specs.declared.search.Search.{Search}
use Rattle.missing_walk.specs.Sees.{Finds, IsHeaderOf, shown, nothing_seen, noted, found_in_maps}
use Rattle.missing_walk.specs.Pending.{stacked, noted_places, found_all, Covers, Around}
use Rattle.missing_walk.specs.Begins.{Begins, root_place}
use Rattle.missing_walk.specs.Searching.{Kept}
use Rattle.missing_walk.proofs.Noting.{finds}
use Rattle.missing_walk.proofs.Ledgers.{lacks_header, foreign_header, from_header, maps_found}
use Rattle.missing_walk.proofs.shared.Places.{all_append, all_one}
use Rattle.missing_walk.proofs.Meetings.{roots_met, roots_apart}

no_header : (nodes : Lookup) (t : Hash) → None ≡ header_in nodes t → IsHeaderOf nodes t None
no_header nodes t e = record { bytes = e; reads = tt }

pub found_none : (half : Half) (nodes : Lookup) (t : Hash) (f : Found) → None ≡ nodes t → shown f ≡ noted nothing_seen (lacks HeaderPlace)
    → f.header ≡ None → Finds half nodes t f
found_none half nodes t f none seen head =
    finds half nodes t f (subst (IsHeaderOf nodes t) (sym head) (no_header nodes t (ap (option_and_then header_of) none)))
    (lacks_header half nodes t nothing_seen (shown f) refl none seen)

pub found_foreign : (half : Half) (nodes : Lookup) (t : Hash) (f : Found) (form bytes : Bytes) → Some form ≡ nodes t → bytes ≡ form
    → None ≡ header_of bytes → shown f ≡ noted nothing_seen (breaks HeaderPlace Foreign) → f.header ≡ None → Finds half nodes t f
found_foreign half nodes t f form bytes stored same none seen head =
    finds half nodes t f
    (subst (IsHeaderOf nodes t) (sym head) (no_header nodes t (none ∙ ap header_of same ∙ ap (option_and_then header_of) stored)))
    (foreign_header half nodes t nothing_seen (shown f) form bytes refl stored same none seen)

pub not_some : {A : Type 0} (o : Option A) → is_some o ≡ false → o ≡ None
not_some None e = refl
not_some (Some x) e = cc

module _ (half : Half) where
  root_found : (more : Lookup) (kind : Kind) (h : Hash) (z : Bool) → is_zero h ≡ z
      → found_below half more kind 64 None [] h
      ≡ found_all half more (if z then [] else record { kind = kind; path = []; hash = h; parent = None } ∷ [])
  root_found more kind h true e = below_zero half more kind 64 None [] h e
  root_found more kind h false e = sym (all_one half more (record { kind = kind; path = []; hash = h; parent = None }))

  -- where this header is seen, what is found of the ledger is found at its two roots
  pub roots_found : (more : Lookup) (t : Hash) (bytes : Bytes) (state tx : Hash) → header_sight (more t) ≡ sound (header bytes)
      → state_root_of bytes ≡ state → tx_root_of bytes ≡ tx
      → findings half more t ≡ found_all half more (root_place State state ++ root_place Tx tx)
  unfolding found_in_maps
  roots_found more t bytes state tx seen state_is tx_is =
      from_header half more t (sound (header bytes)) seen
      ∙ maps_found half more bytes
      ∙ (λ i. found_below half more State 64 None [] (state_is i) ++ found_below half more Tx 64 None [] (tx_is i))
      ∙ (λ i. root_found more State state (is_zero state) refl i ++ root_found more Tx tx (is_zero tx) refl i)
      ∙ sym (all_append half more (root_place State state) (root_place Tx tx))

  seen_header : (form bytes head : Bytes) (o : Option Bytes) → Some form ≡ o → bytes ≡ form → Some head ≡ header_of bytes
      → header_sight o ≡ sound (header head)
  seen_header form bytes head o stored same read =
      ap header_sight (sym stored) ∙ ap header_or_foreign (ap header_of (sym same) ∙ sym read)

  pub begun : (nodes : Lookup) (h : Header) (s s' : Search) (form bytes : Bytes) → s'.target ≡ s.target → Begins h s s'
      → Some form ≡ nodes s.target → bytes ≡ form → Some (header_bytes (fields h)) ≡ header_of bytes → Reads (header_bytes (fields h)) h
      → Kept half nodes s'
  begun nodes h s s' form bytes target b stored same read reads =
      let head : IsHeaderOf nodes s.target (Some h) = record {
        bytes = read ∙ ap header_of same ∙ ap (option_and_then header_of) stored;
        reads = reads;
      } in
      record {
        head = subst (λ t. IsHeaderOf nodes t s'.header) (sym target) (subst (IsHeaderOf nodes s.target) (sym b.header_is) head);
        covers = subst (λ t. Covers half nodes t (noted_places s'.missing.items ++ stacked s'.stack.items)) (sym target)
            (subst (λ ms. Covers half nodes s.target (noted_places ms ++ stacked s'.stack.items)) (sym b.missing)
            (subst (Covers half nodes s.target) (sym b.places) (record {
              met = roots_met half nodes s.target (header_bytes
                  (fields h)) h.state_root h.tx_root head.bytes reads.state_root reads.tx_root;
              apart = roots_apart h.state_root h.tx_root;
              same = λ more up. roots_found more s.target (header_bytes (fields h)) h.state_root h.tx_root
                  (seen_header form bytes (header_bytes (fields h)) (more s.target) (sym (up s.target form (sym stored))) same read)
                  reads.state_root reads.tx_root;
            })));
        around = subst (λ l. Around half nodes (reverse l) (stacked s'.stack.items)) (sym b.opened) tt;
        few = subst (λ ms. length ms ≤ 256) (sym b.missing) (omega arith);
      }
