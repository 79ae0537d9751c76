-- The reading of a script, line by line: what holds behind the first lines, how it goes on by one more, and what it comes to at the end.
use Rattle.std.proofs.Common.{◌≡◌, ℕ, Option, Some, None, ◌+◌, ◌-◌, ◌<◌, ◌≤◌, List, [], ◌∷◌, ◌++◌, length, map, take, drop}
use Rattle.std.proofs.Common.{inr, refl, sym, ◌∙◌, ap, subst, arith, append_assoc, length-append, Bool, true, false}
use Rattle.std.specs.List.{All, Contains}
use Rattle.std.specs.List.Sorted.{IsNonDecreasing}
use Rattle.std.specs.Option.{IfSome}
use Rattle.std.proofs.lemmas.List.{append-nil, drop_all, length-take, length-take-le, length-drop, map-append}
use Rattle.std.proofs.lemmas.List.Elements.{All-push, All-weaker}
use Rattle.run_io.specs.Bytes.{Took}
use Rattle.ledger_spec.specs.Bytes.{Bytes, Hash, Half}
use Rattle.ledger_spec.specs.Own.{IsStoredAt}
use Rattle.ledger_machine.specs.declared.commands.Line.{Line}
use Rattle.ledger_machine.specs.declared.commands.Record.{Record}
use Rattle.ledger_machine.specs.Records.{hashes_of, AreRecords}
use Rattle.script_form.specs.declared.cause.Cause.{Cause}
use Rattle.script_form.specs.declared.cause.Cause.TheVariants as cause
use Rattle.script_form.specs.Servable.{AreServable}
use Rattle.script_form.specs.Words.{lines_of, text_of, words_of}
use Rattle.script_form.specs.Records.{Earlier, earlier_in, is_store, hashes_in, SaysRecord}
use Rattle.script_form.specs.Causes.{most_bytes, is_skipped, is_command, commands_from, earlier_of, size_of, LineHas, IsFine, AreFine}
use Rattle.script_form.specs.Causes.{IsFirstOf, number_of}
use Rattle.script_form.specs.Grammar.{Says, AreSaid, SaysAsRecord, SaysAsLine, IsScript, IsRefused}
use Rattle.script_form.specs.Judging.{IsFineLine, IsSaid, is_page_command, pages_with}
use Rattle.script_form.specs.declared.judging.Content.{Content}
use Rattle.script_form.specs.declared.judging.Content.TheVariants as content
use Rattle.script_form.specs.Causes.{most_pages, is_page, pages_in, IsOverPages}
use Rattle.std.specs.Prelude.{if◌then◌else◌}
use Rattle.script_form.proofs.Said.{differ}
use Rattle.script_form.proofs.Servable.{Known, known, nothing_servable, servable_more}
use Rattle.script_form.proofs.LineMore.{none_fine, fine_more, size_more, skipped_no_command, skipped_no_store, store_no_command}
use Rattle.script_form.proofs.LineMore.{command_no_store, commands_skip, commands_more, its_hash, hashes_more, hashes_skip, said_skip}
use Rattle.script_form.proofs.LineMore.{said_more, records_more, numbers_below, rises_more, has_of_line, line_of_has, not_last, pages_more}
use Rattle.script_form.proofs.LineMore.{no_page, words_page}

-- what was read of the bytes: some records and lines, and the rest
pub record Reads (half : Half) (bytes : Bytes) (records : List Record) (lines : List Line) (earlier : List ℕ) (n : ℕ) (rest : Bytes)
    (pages : ℕ) : Type 0 where
  pub done : List Bytes
  pub cut : lines_of bytes ≡ done ++ lines_of rest
  pub fine : AreFine half done
  pub stored : AreSaid is_store SaysAsRecord [] done records
  pub says : AreSaid is_command SaysAsLine [] done lines
  pub numbers : earlier ≡ commands_from 1 done
  pub hashes : hashes_of records ≡ hashes_in done
  pub same : map (λ l. l.number) lines ≡ earlier
  pub place : n ≡ length done + 1
  pub size : length bytes ≡ size_of done + length rest
  pub room : size_of done ≤ most_bytes
  pub few : n + length rest ≤ length bytes + 1
  pub count : length lines + 1 ≤ n
  pub below : All (λ l. l.number < n) lines
  pub rises : IsNonDecreasing earlier
  pub servable : AreServable lines
  pub own : AreRecords half records
  pub pages_are : pages ≡ pages_in done
  pub pages_few : pages ≤ most_pages

pub reads_start : (half : Half) (bytes : Bytes) → Reads half bytes [] [] [] 1 bytes 0
reads_start half bytes = record {
  done = [];
  cut = refl;
  fine = none_fine half;
  stored = tt;
  says = tt;
  numbers = refl;
  hashes = refl;
  same = refl;
  place = omega arith;
  size = omega arith;
  room = omega arith;
  few = omega arith;
  count = omega arith;
  below = λ k d lt. absurd (omega arith);
  rises = λ i j d le lt. absurd (omega arith);
  servable = nothing_servable;
  own = record { own = λ k d lt. absurd (omega arith); distinct = tt };
  pages_are = refl;
  pages_few = omega arith;
}

module _ (half : Half) (bytes : Bytes) (records : List Record) (lines : List Line) (earlier : List ℕ) (n : ℕ) (rest : Bytes)
    (pages : ℕ) (r : Reads half bytes records lines earlier n rest pages) where
  same_earlier : earlier_in earlier records ≡ earlier_of r.done
  same_earlier =
      ap (λ (ns : List ℕ). record { commands = ns; hashes = hashes_of records }) r.numbers
      ∙ ap (λ (hs : List Hash). record { commands = commands_from 1 r.done; hashes = hs }) r.hashes

  -- the next line's text, and how many bytes the line has
  module _ (text : Bytes) (k : ℕ) (is : text ≡ text_of (take k rest)) (cut : lines_of rest ≡ take k rest ∷ lines_of (drop k rest))
      (some : 0 < k) (within : k ≤ length rest) where
    long : length (take k rest) ≡ k
    long = length-take-le k rest within

    cut_next : lines_of bytes ≡ (r.done ++ take k rest ∷ []) ++ lines_of (drop k rest)
    cut_next = r.cut ∙ ap (λ (w : List Bytes). r.done ++ w) cut ∙ sym (append_assoc r.done (take k rest ∷ []) (lines_of (drop k rest)))

    fits : length bytes - length rest + k ≤ most_bytes → size_of r.done + length (take k rest) ≤ most_bytes
    fits room = omega (arith, r.size, room, long)

    over : (P : Earlier → Bytes → Type 0) → P (earlier_in earlier records) text → P (earlier_of r.done) (text_of (take k rest))
    over P p =
        let Q : Earlier → Type 0 = λ e. P e (text_of (take k rest)) in
        let S : Bytes → Type 0 = λ t. P (earlier_in earlier records) t in
        subst Q same_earlier (subst S is p)

    fine_next : length bytes - length rest + k ≤ most_bytes → (IsOverPages r.done (take k rest) → ⊥)
        → IsFineLine half (earlier_in earlier records) text → IsFine half r.done (take k rest)
    fine_next room free fine c has =
        over (λ e t. IsFineLine half e t) fine c (line_of_has half r.done (take k rest) c (fits room) (λ is. free) has)

    -- the pages stay where the line names none
    pages_stay : is_page (words_of (text_of (take k rest))) ≡ false → pages ≡ pages_in (r.done ++ take k rest ∷ [])
    pages_stay none = r.pages_are ∙ sym (pages_more r.done (take k rest) ∙ rw none refl)

    not_over : is_page (words_of (text_of (take k rest))) ≡ false → IsOverPages r.done (take k rest) → ⊥
    not_over none over = differ over.page none

    here : (P : List Bytes → Type 0) → P (words_of text) → P (words_of (text_of (take k rest)))
    here P p = let Q : Bytes → Type 0 = λ t. P (words_of t) in subst Q is p

    pub reads_skip : length bytes - length rest + k ≤ most_bytes → IsFineLine half (earlier_in earlier records) text
        → is_skipped (words_of text) ≡ true → Reads half bytes records lines earlier (n + 1) (drop k rest) pages
    reads_skip room fine skipped =
        let words = words_of (text_of (take k rest)) in
        let skip = here (λ w. is_skipped w ≡ true) skipped in
        let no_one = no_page words (skipped_no_command words skip) in
        record {
          done = r.done ++ take k rest ∷ [];
          cut = cut_next;
          fine = fine_more half r.done (take k rest) r.fine (fine_next room (not_over no_one) fine);
          stored = said_skip is_store SaysAsRecord [] r.done records (take k rest) r.stored (skipped_no_store words skip);
          says = said_skip is_command SaysAsLine [] r.done lines (take k rest) r.says (skipped_no_command words skip);
          numbers = r.numbers ∙ sym (commands_skip 1 r.done (take k rest) (skipped_no_command words skip));
          hashes = r.hashes ∙ sym (hashes_skip r.done (take k rest) (skipped_no_store words skip));
          same = r.same;
          place = omega (arith, r.place, length-append r.done (take k rest ∷ []));
          size = omega (arith, r.size, size_more r.done (take k rest), long, length-drop k rest, within);
          room = omega (arith, size_more r.done (take k rest), fits room);
          few = omega (arith, r.few, length-drop k rest, some, within);
          count = omega (arith, r.count);
          below = All-weaker (λ l. l.number < n) (λ l. l.number < n + 1) (λ l less. omega (arith, less)) lines r.below;
          rises = r.rises;
          servable = r.servable;
          own = r.own;
          pages_are = pages_stay no_one;
          pages_few = r.pages_few;
        }

    pub reads_record : (one : Record) → length bytes - length rest + k ≤ most_bytes → IsFineLine half (earlier_in earlier records) text
        → is_store (words_of text) ≡ true → SaysRecord (drop 1 (words_of text)) one → IsStoredAt half one.hash one.form
        → Reads half bytes (records ++ one ∷ []) lines earlier (n + 1) (drop k rest) pages
    reads_record one room fine store says own =
        let words = words_of (text_of (take k rest)) in
        let stands = here (λ w. is_store w ≡ true) store in
        let no_one = no_page words (store_no_command words stands) in
        let one_says = here (λ w. SaysRecord (drop 1 w) one) says in
        let new : Contains (hashes_of records) one.hash → ⊥ = λ old. fine cause.BadRecord (inr (store, inr (one, says, inr old))) in
        record {
          done = r.done ++ take k rest ∷ [];
          cut = cut_next;
          fine = fine_more half r.done (take k rest) r.fine (fine_next room (not_over no_one) fine);
          stored = said_more is_store SaysAsRecord [] r.done r.done records (take k rest) one refl r.stored stands one_says;
          says = said_skip is_command SaysAsLine [] r.done lines (take k rest) r.says (store_no_command words stands);
          numbers = r.numbers ∙ sym (commands_skip 1 r.done (take k rest) (store_no_command words stands));
          hashes =
              map-append (λ (x : Record). x.hash) records (one ∷ []) ∙ ap (λ (hs : List Hash). hs ++ one.hash ∷ []) r.hashes
              ∙ sym (hashes_more r.done (take k rest) (one.hash ∷ []) (its_hash words one stands one_says));
          same = r.same;
          place = omega (arith, r.place, length-append r.done (take k rest ∷ []));
          size = omega (arith, r.size, size_more r.done (take k rest), long, length-drop k rest, within);
          room = omega (arith, size_more r.done (take k rest), fits room);
          few = omega (arith, r.few, length-drop k rest, some, within);
          count = omega (arith, r.count);
          below = All-weaker (λ l. l.number < n) (λ l. l.number < n + 1) (λ l less. omega (arith, less)) lines r.below;
          rises = r.rises;
          servable = r.servable;
          own = records_more half records one r.own own new;
          pages_are = pages_stay no_one;
          pages_few = r.pages_few;
        }

    -- one more where the line says a page
    pages_named : (l : Line) → is_page (words_of (text_of (take k rest))) ≡ is_page_command l.command
        → pages_with pages (content.Line l) ≡ pages_in (r.done ++ take k rest ∷ [])
    pages_named l names =
        ap (λ m. if is_page_command l.command then m + 1 else m) r.pages_are
        ∙ sym (pages_more r.done (take k rest) ∙ ap (λ b. if b then pages_in r.done + 1 else pages_in r.done) names)

    within_pages : (l : Line) → is_page (words_of (text_of (take k rest))) ≡ is_page_command l.command
        → pages_with pages (content.Line l) ≤ most_pages → IsOverPages r.done (take k rest) → ⊥
    within_pages l names named over =
        let one : is_page_command l.command ≡ true = sym names ∙ over.page in
        let more : pages + 1 ≤ most_pages = subst (λ b. (if b then pages + 1 else pages) ≤ most_pages) one named in
        omega (arith, more, r.pages_are, over.full)

    pub reads_line : (l : Line) → length bytes ≤ most_bytes + 1 → length bytes - length rest + k ≤ most_bytes
        → IsFineLine half (earlier_in earlier records) text → is_command (words_of text) ≡ true → Says earlier n text l
        → pages_with pages (content.Line l) ≤ most_pages
        → Reads half bytes records (lines ++ l ∷ []) (earlier ++ n ∷ []) (n + 1) (drop k rest) (pages_with pages (content.Line l))
    reads_line l small room fine command says named =
        let words = words_of (text_of (take k rest)) in
        let stands = here (λ w. is_command w ≡ true) command in
        let below : All (λ x. x.number < l.number) lines = All-weaker (λ x. x.number < n) (λ x. x.number < l.number)
        (λ x less. omega (arith, less, says.numbered)) lines r.below in
        let names : is_page words ≡ is_page_command l.command =
        here (λ w. is_page w ≡ is_page_command l.command) (words_page earlier (words_of text) l command says.words) in
        let text_says : Says earlier n (text_of (take k rest)) l = subst (λ (t : Bytes). Says earlier n t l) is says in
        let numbered_says = subst (λ (m : ℕ). Says earlier m (text_of (take k rest)) l) r.place text_says in
        let whole_says = subst (λ (e : List ℕ). Says e (length r.done + 1) (text_of (take k rest)) l) r.numbers numbered_says in
        record {
          done = r.done ++ take k rest ∷ [];
          cut = cut_next;
          fine = fine_more half r.done (take k rest) r.fine (fine_next room (within_pages l names named) fine);
          stored = said_skip is_store SaysAsRecord [] r.done records (take k rest) r.stored (command_no_store words stands);
          says = said_more is_command SaysAsLine [] r.done r.done lines (take k rest) l refl r.says stands whole_says;
          numbers =
              ap (λ (e : List ℕ). e ++ n ∷ []) r.numbers
              ∙ sym (commands_more 1 r.done (take k rest) n stands (omega (arith, r.place)));
          hashes = r.hashes ∙ sym (hashes_skip r.done (take k rest) (command_no_store words stands));
          same =
              map-append (λ (x : Line). x.number) lines (l ∷ []) ∙ ap (λ (e : List ℕ). e ++ l.number ∷ []) r.same
              ∙ ap (λ (m : ℕ). earlier ++ m ∷ []) says.numbered;
          place = omega (arith, r.place, length-append r.done (take k rest ∷ []));
          size = omega (arith, r.size, size_more r.done (take k rest), long, length-drop k rest, within);
          room = omega (arith, size_more r.done (take k rest), fits room);
          few = omega (arith, r.few, length-drop k rest, some, within);
          count = omega (arith, r.count, length-append lines (l ∷ []));
          below = All-push (λ x. x.number < n + 1) lines l
              (All-weaker (λ x. x.number < n) (λ x. x.number < n + 1) (λ x less. omega (arith, less)) lines r.below)
              (omega (arith, says.numbered));
          rises = rises_more earlier n r.rises (numbers_below lines earlier n r.same r.below);
          servable = servable_more lines l r.servable (omega (arith, says.numbered, r.place)) below (omega (arith, r.count, r.few, small))
              (let K : List ℕ → Type 0 = λ e. Known e l in subst K (sym r.same) (known earlier (words_of text) l says.words));
          own = r.own;
          pages_are = pages_named l names;
          pages_few = named;
        }

    pub refused_text : (c : Cause) → length bytes - length rest + k ≤ most_bytes
        → IsFirstOf (LineHas half (earlier_in earlier records) text) c → IsRefused half bytes n (number_of c)
    refused_text c room first = record {
      before = r.done;
      bad = take k rest;
      after = lines_of (drop k rest);
      cut = r.cut ∙ ap (λ (w : List Bytes). r.done ++ w) cut;
      place = r.place;
      good = r.fine;
      why = c;
      first = record {
        has = has_of_line half r.done (take k rest) c (over (λ e t. LineHas half e t c) first.has);
        none_before = λ d less has.
            over (λ e t. LineHas half e t d → ⊥) (first.none_before d less)
            (line_of_has half r.done (take k rest) d (fits room) (λ is over. not_last c d less is) has);
      };
      number = refl;
    }

    -- the line says one page too many
    pub refused_page : (l : Line) → length bytes - length rest + k ≤ most_bytes → IsFineLine half (earlier_in earlier records) text
        → is_command (words_of text) ≡ true → Says earlier n text l → most_pages < pages_with pages (content.Line l)
        → IsRefused half bytes n 12
    refused_page l room fine command says many =
        let names : is_page (words_of (text_of (take k rest))) ≡ is_page_command l.command =
        here (λ w. is_page w ≡ is_page_command l.command) (words_page earlier (words_of text) l command says.words) in
        record {
          before = r.done;
          bad = take k rest;
          after = lines_of (drop k rest);
          cut = r.cut ∙ ap (λ (w : List Bytes). r.done ++ w) cut;
          place = r.place;
          good = r.fine;
          why = cause.TooManyCommands;
          first = record {
            has = inr (one_more (is_page_command l.command) refl names many);
            none_before = λ d less has.
                over (λ e t. IsFineLine half e t) fine d
                (line_of_has half r.done (take k rest) d (fits room) (λ is over. not_last cause.TooManyCommands d less is) has);
          };
          number = refl;
        }
      where
        one_more : (b : Bool) → is_page_command l.command ≡ b → is_page (words_of (text_of (take k rest))) ≡ is_page_command l.command
            → most_pages < (if is_page_command l.command then pages + 1 else pages) → IsOverPages r.done (take k rest)
        one_more true is names many = record {
          page = names ∙ is;
          full =
              let more : most_pages < pages + 1 = subst (λ b. most_pages < (if b then pages + 1 else pages)) is many in
              omega (arith, more, r.pages_are);
        }
        one_more false is names many =
            let more : most_pages < pages = subst (λ b. most_pages < (if b then pages + 1 else pages)) is many in
            absurd (omega (arith, more, r.pages_few))

    pub refused_named : (said : Content) → length bytes - length rest + k ≤ most_bytes
        → IsFineLine half (earlier_in earlier records) text → IsSaid half earlier n text said → most_pages < pages_with pages said
        → IsRefused half bytes n 12
    refused_named content.Nothing room fine is many = absurd (omega (arith, many, r.pages_few))
    refused_named (content.Record one) room fine is many = absurd (omega (arith, many, r.pages_few))
    refused_named (content.Line l) room fine is many = refused_page l room fine is.0 is.1 many

    pub refused_size : most_bytes < length bytes - length rest + k → IsRefused half bytes n 12
    refused_size over = record {
      before = r.done;
      bad = take k rest;
      after = lines_of (drop k rest);
      cut = r.cut ∙ ap (λ (w : List Bytes). r.done ++ w) cut;
      place = r.place;
      good = r.fine;
      why = cause.ScriptTooLong;
      first = record { has = omega (arith, r.size, over, long); none_before = λ d less has. absurd (omega (arith, less)) };
      number = refl;
    }

  pub reads_end : length rest ≡ 0 → IsScript half bytes records lines
  reads_end none =
      let whole : lines_of bytes ≡ r.done = r.cut ∙ ap (λ (w : Bytes). r.done ++ lines_of w) (empty rest none) ∙ append-nil r.done in
      let P : List Bytes → Type 0 = λ w. AreFine half w in
      let Q : List Bytes → Type 0 = λ w. AreSaid is_store SaysAsRecord [] w records in
      let S : List Bytes → Type 0 = λ w. AreSaid is_command SaysAsLine [] w lines in
      record { fine = subst P (sym whole) r.fine; stored = subst Q (sym whole) r.stored; says = subst S (sym whole) r.says }
    where
      empty : (xs : List ℕ) → length xs ≡ 0 → xs ≡ []
      empty [] is = refl
      empty (x ∷ xs) is = absurd (omega arith)

  pub within_size : length rest ≡ 0 → length bytes ≤ most_bytes
  within_size none = omega (arith, r.size, r.room, none)

-- where a script was read to its limit and a byte more, the source was read to its end
pub ended_at : (old new : Option (List ℕ)) (v : List ℕ) → Took old new (most_bytes + 1)
    → IfSome old (λ bytes. v ≡ take (most_bytes + 1) bytes) → length v ≤ most_bytes → IfSome old (λ _. new ≡ Some [])
ended_at None new v took is small = tt
ended_at (Some bytes) new v took is small =
    let few : length bytes ≤ most_bytes + 1 = omega (arith, small, length-take (most_bytes + 1) bytes, ap length is) in
    took ∙ ap Some (drop_all (most_bytes + 1) bytes few)
