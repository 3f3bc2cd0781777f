-- The input of a tool: how it is divided does not matter, and what is printed is what the tool says of its lines.
-- Assumes nothing.
use Prim.Native.Nat.{ℕ, zero, suc, ◌-◌, ◌≤◌}
use mathlib.Core.Path.{◌≡◌, refl, sym, ap, ◌∙◌}
use mathlib.Core.Bool.{Bool, true, false}
use mathlib.Core.List.{List, [], ◌∷◌, ◌++◌, append_assoc, append-nil}
use native.Mathlib.Omega.{arith}
use lib.ListN.{length, take, length-take}
use lib.Seq.{take_all, take-nil, take-take, append_snoc}
use lib.Dec.{eqb}
use Rattle.rules.specs.Checks.{◌⇒◌else◌, is_empty, member}
use Rattle.rules.specs.Input.{on_first, lines_of}
use Rattle.rules.proofs.Laws.{stop, skip}
use Rattle.flow.specs.Flow.{kept_size, Ends, Reader, Fed, between, ended, grown, fed, feeds, finishes, joined, printed_from, prints, said_of, before_feed, piece, last_piece}

-- what is kept of two parts
pub take_both : (n : ℕ) (s t : List ℕ) → take n (s ++ t) ≡ take n s ++ take (n - length s) t
take_both n [] t = ap (λ (k : ℕ). take k t) (let e : n ≡ n - 0 = omega arith in e) ∙ ap (λ (l : List ℕ). l ++ take (n - 0) t) (sym (take-nil n))
take_both zero (c ∷ s) t = ap (λ (k : ℕ). take k t) (let e : 0 ≡ 0 - length (c ∷ s) = omega arith in e)
take_both (suc n) (c ∷ s) t =
    ap (λ (l : List ℕ). c ∷ l) (take_both n s t)
    ∙ ap (λ (k : ℕ). c ∷ (take n s ++ take k t)) (let e : n - length s ≡ suc n - length (c ∷ s) = omega arith in e)

pub kept_more : (l s : List ℕ) → take kept_size (take kept_size l ++ s) ≡ take kept_size (l ++ s)
kept_more l s =
    let k : take kept_size (take kept_size l) ≡ take kept_size l = take-take kept_size kept_size l (omega arith) in
    let n = length-take kept_size l in
    let e : kept_size - length (take kept_size l) ≡ kept_size - length l = omega arith in
    take_both kept_size (take kept_size l) s ∙ (λ i. k i ++ take (e i) s) ∙ sym (take_both kept_size l s)

module _ {K : Type 0} (e : Ends K) where
  -- two pieces are fed as one
  pub fed_pieces :
      (r : Reader K) (s t : List ℕ) →
      feeds e r (s ++ t) ≡ record { reader = (feeds e (feeds e r s).reader t).reader; out = (feeds e r s).out ++ (feeds e (feeds e r s).reader t).out }
  unfolding feeds
  fed_pieces r [] t = refl
  fed_pieces r (c ∷ s) t =
      let f = fed e r c in
      let p = fed_pieces f.reader s t in
      (λ i. record { reader = (p i).reader; out = f.out ++ (p i).out })
      ∙ (λ i.
      record {
        reader = (feeds e (feeds e f.reader s).reader t).reader;
        out = sym (append_assoc f.out (feeds e f.reader s).out (feeds e (feeds e f.reader s).reader t).out) i;
      })

  -- the pieces that an input comes in do not matter
  pub divided : (r : Reader K) (ss : List (List ℕ)) → printed_from e r ss ≡ printed_from e r (joined ss ∷ [])
  unfolding printed_from joined feeds
  divided r [] = refl
  divided r (s ∷ ss) =
      let f = feeds e r s in
      let g = feeds e f.reader (joined ss) in
      ap (λ (t : List ℕ). f.out ++ t) (divided f.reader ss) ∙ sym (append_assoc f.out g.out (finishes e g.reader))
      ∙ ap (λ (x : Fed K). x.out ++ finishes e x.reader) (sym (fed_pieces r s (joined ss)))

  -- a line feed ends the line, and other bytes lengthen it
  pub fed_end : (r : Reader K) → feeds e r (10 ∷ []) ≡ ended (e r.kept r.pending)
  unfolding feeds fed ◌⇒◌else◌
  fed_end r = λ i. record { reader = between (e r.kept r.pending).kept; out = append-nil (e r.kept r.pending).out i }

  fed_none : (r : Reader K) → length r.pending ≤ kept_size → feeds e r [] ≡ grown r []
  unfolding feeds
  fed_none r h =
      λ i. record { reader = record { kept = r.kept; pending = sym (ap (take kept_size) (append-nil r.pending) ∙ take_all kept_size r.pending h) i }; out = [] }

  fed_byte :
      (c : ℕ) (s : List ℕ) → ((r : Reader K) → length r.pending ≤ kept_size → feeds e r s ≡ grown r s) → eqb c 10 ≡ false → (r : Reader K) →
      feeds e r (c ∷ s) ≡ grown r (c ∷ s)
  unfolding feeds fed
  fed_byte c s h t r =
      let more : Fed K = grown r (c ∷ []) in
      let n = length-take kept_size (r.pending ++ c ∷ []) in
      let p = kept_more (r.pending ++ c ∷ []) s ∙ ap (take kept_size) (append_snoc r.pending c s) in
      ap (λ (f : Fed K). let g = feeds e f.reader s in record { reader = g.reader; out = f.out ++ g.out }) (skip _ (ended (e r.kept r.pending)) more t)
      ∙ h more.reader (omega arith) ∙ (λ i. record { reader = record { kept = r.kept; pending = p i }; out = [] })

  before_fed : (s : List ℕ) (r : Reader K) → length r.pending ≤ kept_size → feeds e r (before_feed s) ≡ grown r (before_feed s)
  unfolding before_feed ◌⇒◌else◌
  before_fed [] r k = fed_none r k
  before_fed (c ∷ s) r k = by (before_fed s) (eqb c 10) refl
    where
      by :
          ((x : Reader K) → length x.pending ≤ kept_size → feeds e x (before_feed s) ≡ grown x (before_feed s)) → (b : Bool) → eqb c 10 ≡ b →
          feeds e r (b ⇒ [] else c ∷ before_feed s) ≡ grown r (b ⇒ [] else c ∷ before_feed s)
      by h true t = fed_none r k
      by h false t = fed_byte c (before_feed s) h t r

  -- a piece without the end of a line, and one with it
  pub piece_open : (r : Reader K) (s : List ℕ) → length r.pending ≤ kept_size → member 10 s ≡ false → feeds e r (piece s) ≡ grown r (before_feed s)
  unfolding piece
  piece_open r s k t = ap (λ (l : List ℕ). feeds e r (before_feed s ++ l)) (skip _ _ _ t) ∙ ap (feeds e r) (append-nil (before_feed s)) ∙ before_fed s r k

  pub piece_whole :
      (r : Reader K) (s : List ℕ) → length r.pending ≤ kept_size → member 10 s ≡ true →
      feeds e r (piece s) ≡ ended (e r.kept (take kept_size (r.pending ++ before_feed s)))
  unfolding piece
  piece_whole r s k t =
      ap (λ (l : List ℕ). feeds e r (before_feed s ++ l)) (stop _ _ _ t) ∙ fed_pieces r (before_feed s) (10 ∷ [])
      ∙ ap (λ (f : Fed K). let g = feeds e f.reader (10 ∷ []) in record { reader = g.reader; out = f.out ++ g.out }) (before_fed s r k)
      ∙ fed_end (grown r (before_feed s)).reader

  -- what is printed at the end of the input is what its last piece prints
  pub finishes_fed : (r : Reader K) → finishes e r ≡ (feeds e r (last_piece r)).out
  unfolding finishes last_piece feeds ◌⇒◌else◌
  finishes_fed r = by (is_empty r.pending)
    where
      by : (b : Bool) → (b ⇒ [] else (e r.kept r.pending).out) ≡ (feeds e r (b ⇒ [] else 10 ∷ [])).out
      by true = refl
      by false = sym (ap (λ (f : Fed K). f.out) (fed_end r))

-- a line so far, in front of the lines that follow
unfoldable glued : List ℕ → List (List ℕ) → List (List ℕ)
glued [] ls = ls
glued (c ∷ l) ls = on_first c (glued l ls)

glued_end : (c : ℕ) (l : List ℕ) → glued (c ∷ l) [] ≡ (c ∷ l) ∷ []
unfolding glued on_first
glued_end c [] = refl
glued_end c (d ∷ l) = ap (on_first c) (glued_end d l)

glued_whole : (l : List ℕ) (ls : List (List ℕ)) → glued l ([] ∷ ls) ≡ l ∷ ls
unfolding glued on_first
glued_whole [] ls = refl
glued_whole (c ∷ l) ls = ap (on_first c) (glued_whole l ls)

glued_byte : (l : List ℕ) (c : ℕ) (ls : List (List ℕ)) → glued l (on_first c ls) ≡ glued (l ++ c ∷ []) ls
unfolding glued on_first
glued_byte [] c ls = refl
glued_byte (d ∷ l) c ls = ap (on_first d) (glued_byte l c ls)

module _ {K : Type 0} (e : Ends K) where
  abbrev reader : K → List ℕ → Reader K
  reader k l = record { kept = k; pending = take kept_size l }

  finish_said : (k : K) (l : List ℕ) → finishes e (reader k l) ≡ said_of e k (glued l [])
  unfolding finishes is_empty ◌⇒◌else◌ glued said_of
  finish_said k [] = refl
  finish_said k (c ∷ l) = sym (append-nil (e k (take kept_size (c ∷ l))).out) ∙ ap (said_of e k) (sym (glued_end c l))

  -- of the rest of the input a reader prints what the tool says of its lines
  abbrev Rest : List ℕ → Type 0
  Rest s = (k : K) (l : List ℕ) → printed_from e (reader k l) (s ∷ []) ≡ said_of e k (glued l (lines_of s))

  rest_byte :
      (c : ℕ) (s : List ℕ) (h : Rest s) (k : K) (l : List ℕ) (t : Bool) →
      let f : Fed K = t ⇒ ended (e k (take kept_size l)) else grown (reader k l) (c ∷ []) in
      f.out ++ printed_from e f.reader (s ∷ []) ≡ said_of e k (glued l (t ⇒ [] ∷ lines_of s else on_first c (lines_of s)))
  unfolding glued ◌⇒◌else◌ said_of
  rest_byte c s h k l true =
      ap (λ (o : List ℕ). (e k (take kept_size l)).out ++ o) (h (e k (take kept_size l)).kept []) ∙ ap (said_of e k) (sym (glued_whole l (lines_of s)))
  rest_byte c s h k l false =
      (λ i. printed_from e (record { kept = k; pending = kept_more l (c ∷ []) i }) (s ∷ [])) ∙ h k (l ++ c ∷ []) ∙ ap (said_of e k) (sym (glued_byte l c (lines_of s)))

  rest_printed : (s : List ℕ) → Rest s
  unfolding printed_from feeds lines_of fed
  rest_printed [] k l = finish_said k l
  rest_printed (c ∷ s) k l =
      append_assoc (fed e (reader k l) c).out (feeds e (fed e (reader k l) c).reader s).out _ ∙ rest_byte c s (rest_printed s) k l (eqb c 10)

  -- what is printed is what the tool says of the lines
  pub lines_said : (k : K) (s : List ℕ) → prints e k s ≡ said_of e k (lines_of s)
  unfolding prints glued
  lines_said k s = rest_printed s k []
