-- Responses put together in a buffer: the head, and what follows it.
-- Assumes nothing.
use Prim.Native.Nat.{ℕ, suc, ◌+◌, ◌≤◌, ◌<◌, ◌/◌, ◌%◌, ◌^◌}
use mathlib.Core.Path.{◌≡◌, refl, sym, ap, subst, ◌∙◌}
use mathlib.Core.List.{List, [], ◌∷◌, ◌++◌, append_assoc}
use native.Mathlib.Omega.{arith}
use native.Mathlib.Nat.{zero-add}
use lib.ListN.{length, get_or, length-append, length-take, length-drop}
use Rattle.rules.specs.declared.ChannelNumber.{ChannelNumber}
use Rattle.rules.specs.declared.Details.{Details}
use Rattle.rules.specs.declared.Link.{Link}
use Rattle.rules.specs.declared.Link.TheVariants.{NotYet, Established, Dropped}
use Rattle.rules.specs.Checks.{◌⇒◌else◌}
use Rattle.rules.specs.Frames.{length_bytes, object_bytes, written}
use Rattle.rules.specs.Reading.{Bearer, bearer_in}
use Rattle.rules.specs.Own.{Further, error, problem, done, opened, received, sent, started, leaves}
use Rattle.rules.specs.Written.{details_bytes, bearer_bytes, pair_bytes, status_bytes, status_object, further_objects, result_bytes, result_objects, response_objects, response_bytes, timer_object, time_object}
use Rattle.rules.proofs.Sizes.{length_bytes_lem}
use Rattle.std.specs.Int.{w16, to_be_bytes}
use Rattle.octets.specs.Parts.{part, pasted}
use Rattle.octets.proofs.Pastes.{paste_after, length_pasted, front_over}
use Rattle.objects.proofs.Writing.{short_length}
use Rattle.responses.specs.Filled.{head_bytes, response, Filled}
use Rattle.rules.specs.Timers.{time_bytes}
use Rattle.rules.specs.declared.Time.{Time}

-- bytes at the front of a buffer
pub begun : (t : List ℕ) (n : ℕ) (before after : List ℕ) → n ≡ length t → after ≡ pasted before 0 t → Filled t n before after
begun t n before after c e = record { lent = e ∙ front_over before t; counted = c }

-- the head of a response, and that of one with a cause
pub error_is : (d : Details) (x : ℕ) → head_bytes d (x ∷ []) ≡ response d (error x)
unfolding response_bytes response_objects result_bytes result_objects details_bytes written object_bytes length_bytes ◌⇒◌else◌
error_is d x = refl

pub problem_is : (d : Details) (x : ℕ) → head_bytes d (0x3A ∷ x ∷ []) ≡ response d (problem x)
unfolding response_bytes response_objects result_bytes result_objects details_bytes written object_bytes length_bytes ◌⇒◌else◌
problem_is d x = refl

-- the head has twelve bytes
pub head_size : (d : Details) (x : ℕ) → length (response d (error x)) ≡ 12
unfolding response_bytes response_objects result_bytes result_objects details_bytes written object_bytes length_bytes ◌⇒◌else◌
head_size d x = refl

-- what follows a result stands behind its head
pub behind_head : (d : Details) (x : ℕ) (f : Further) → response d (done x f) ≡ response d (error x) ++ written (further_objects f)
unfolding response_bytes response_objects result_bytes result_objects details_bytes written object_bytes length_bytes ◌⇒◌else◌
behind_head d x f = refl

-- more bytes, put behind those that stand
pub more :
    (t s : List ℕ) (n m : ℕ) (before out after : List ℕ) → Filled t n before out → m ≡ n + length s → m ≤ length before →
    after ≡ pasted out n s → Filled (t ++ s) m before after
more t s n m before out after h c w e =
    let l = h.counted in
    record {
      lent =
          e
          ∙ ap (λ (x : List ℕ). pasted x n s) (h.lent ∙ sym (front_over before t))
          ∙ ap (λ (k : ℕ). pasted (pasted before 0 t) k s) (l ∙ sym (zero-add (length t)))
          ∙ paste_after before 0 t (omega arith) s
          ∙ front_over before (t ++ s);
      counted = c ∙ ap (λ (k : ℕ). k + length s) l ∙ sym (length-append t s);
    }

-- what fits behind them in the buffer as it was still fits
pub fits_behind :
    (t : List ℕ) (n k : ℕ) (before out : List ℕ) → Filled t n before out → n + k ≤ length before → n + k ≤ length out
fits_behind t n k before out h w =
    let l = h.counted in
    let e = ap length (h.lent ∙ sym (front_over before t)) ∙ length_pasted before 0 t (omega arith) in
    omega arith

-- the head has twelve bytes, so many fit behind it
pub after_head :
    (d : Details) (x n : ℕ) (before out : List ℕ) (k : ℕ) → Filled (response d (error x)) n before out → 12 + k ≤ length before →
    n + k ≤ length out
after_head d x n before out k h w =
    let z = h.counted ∙ head_size d x in
    fits_behind (response d (error x)) n k before out h (omega arith)

-- bytes put behind the head of a response
pub behind_stands :
    (d : Details) (x : ℕ) (s : List ℕ) (n m : ℕ) (before out after : List ℕ) → Filled (response d (error x)) n before out → m ≡ n + length s →
    12 + length s ≤ length before → after ≡ pasted out n s → Filled (response d (error x) ++ s) m before after
behind_stands d x s n m before out after h c w e =
    let z = h.counted ∙ head_size d x in
    more (response d (error x)) s n m before out after h c (omega arith) e

-- the room of an answer to SEND DATA, the timer that was started, and a timer with its time
pub sent_is : (d : Details) (x room : ℕ) → response d (error x) ++ (0x37 ∷ 0x01 ∷ room ∷ []) ≡ response d (done x (sent room))
unfolding further_objects written object_bytes length_bytes ◌⇒◌else◌
sent_is d x room = sym (behind_head d x (sent room))

pub started_is : (d : Details) (x n : ℕ) → response d (error x) ++ (0x24 ∷ 0x01 ∷ n ∷ []) ≡ response d (done x (started n))
unfolding further_objects timer_object written object_bytes length_bytes ◌⇒◌else◌
started_is d x n = sym (behind_head d x (started n))

pub left_is :
    (d : Details) (x n : ℕ) (t : Time) (b : List ℕ) → b ≡ time_bytes t →
    response d (error x) ++ (0x24 ∷ 0x01 ∷ n ∷ 0x25 ∷ 0x03 ∷ get_or b 0 0 ∷ get_or b 1 0 ∷ get_or b 2 0 ∷ []) ≡ response d (done x (leaves n t))
unfolding further_objects timer_object time_object time_bytes written object_bytes length_bytes ◌⇒◌else◌
left_is d x n t b e =
    ap (λ (v : List ℕ). response d (error x) ++ (0x24 ∷ 0x01 ∷ n ∷ 0x25 ∷ 0x03 ∷ get_or v 0 0 ∷ get_or v 1 0 ∷ get_or v 2 0 ∷ [])) e
    ∙ sym (behind_head d x (leaves n t))

-- three pieces behind a head: a from n up to m, s up to q, and z
module _ (d : Details) (x n m : ℕ) (a s z before out after : List ℕ) (h : Filled (response d (error x)) n before out)
    (w : 12 + length a + length s + length z ≤ length before) (c : m ≡ n + length a) (e : after ≡ pasted out n a) where
  first_end : m ≡ 12 + length a
  first_end = c ∙ ap (λ (j : ℕ). j + length a) (h.counted ∙ head_size d x)

  first_stands : Filled (response d (error x) ++ a) m before after
  first_stands = let i = first_end in more (response d (error x)) a n m before out after h c (omega arith) e

  pub second_fits : m + length s ≤ length after
  second_fits = let i = first_end in fits_behind (response d (error x) ++ a) m (length s) before after first_stands (omega arith)

  module _ (q : ℕ) (filled : List ℕ) (g : q ≡ m + length s) (f : filled ≡ pasted after m s) where
    second_stands : Filled ((response d (error x) ++ a) ++ s) q before filled
    second_stands = let i = first_end in more (response d (error x) ++ a) s m q before after filled first_stands g (omega arith) f

    pub third_fits : q + length z ≤ length filled
    third_fits = let i = first_end in fits_behind ((response d (error x) ++ a) ++ s) q (length z) before filled second_stands (omega arith)

    pub three_stand :
        (r : ℕ) (last t : List ℕ) → r ≡ q + length z → last ≡ pasted filled q z → response d (error x) ++ (a ++ (s ++ z)) ≡ t →
        Filled t r before last
    three_stand r last t k l b =
        let i = first_end in
        subst (λ (j : List ℕ). Filled j r before last)
        (append_assoc (response d (error x) ++ a) s z ∙ append_assoc (response d (error x)) a (s ++ z) ∙ b)
        (more ((response d (error x) ++ a) ++ s) z q r before filled last second_stands k (omega arith) l)

-- the pieces of an answer to RECEIVE DATA: k bytes of the pool, j being k
module _ (d : Details) (x left from k j : ℕ) (pool : List ℕ) (e : j ≡ k) (h : from + k ≤ length pool) where
  abbrev whole : ℕ → List ℕ
  whole n = part from (from + n) pool

  whole_size : length (whole k) ≡ k
  whole_size = simp (length-take, length-drop) (omega arith)

  pub received_size : (b : ℕ) → 18 + k ≤ b → 12 + length (0x36 ∷ length_bytes k) + length (whole j) + 3 ≤ b
  received_size b w =
      let l = length_bytes_lem k in
      let f : length (0x36 ∷ length_bytes k) ≡ suc (length (length_bytes k)) = refl in
      let y : length (whole j) ≡ k = ap (λ (n : ℕ). length (whole n)) e ∙ whole_size in
      omega arith

  pub received_pieces :
      response d (error x) ++ ((0x36 ∷ length_bytes k) ++ (whole j ++ (0x37 ∷ 0x01 ∷ left ∷ []))) ≡ response d (done x (received (whole k) left))
  unfolding further_objects written object_bytes length_bytes ◌⇒◌else◌
  received_pieces =
      ap (λ (n : ℕ). response d (error x) ++ ((0x36 ∷ length_bytes k) ++ (whole n ++ (0x37 ∷ 0x01 ∷ left ∷ [])))) e
      ∙ ap (λ (l : List ℕ). response d (error x) ++ (0x36 ∷ l))
      (ap (λ (n : ℕ). length_bytes n ++ (whole k ++ (0x37 ∷ 0x01 ∷ left ∷ []))) (sym whole_size)
      ∙ sym (append_assoc (length_bytes (length (whole k))) (whole k) (0x37 ∷ 0x01 ∷ left ∷ [])))
      ∙ sym (behind_head d x (received (whole k) left))

-- those of an answer to OPEN CHANNEL
opened_by :
    (d : Details) (x g : ℕ) (n : ChannelNumber) (l : Link) (b : Bearer) →
    response d (done x (opened (record { number = n; link = l }) b g)) ≡
    response d (error x) ++
    (0x38 ∷
    0x02 ∷
    get_or (status_bytes n l) 0 0 ∷
    get_or (status_bytes n l) 1 0 ∷
    0x35 ∷
    ((length_bytes (length (bearer_bytes b)) ++ bearer_bytes b) ++ (0x39 ∷ 0x02 ∷ (g / 256) ∷ (g % 256) ∷ [])))
unfolding further_objects status_object status_bytes pair_bytes written object_bytes length_bytes ◌⇒◌else◌
opened_by d x g n NotYet b = behind_head d x (opened (record { number = n; link = NotYet }) b g)
opened_by d x g n Established b = behind_head d x (opened (record { number = n; link = Established }) b g)
opened_by d x g n Dropped b = behind_head d x (opened (record { number = n; link = Dropped }) b g)

-- bytes that are not empty are those of the bearer that they are read as
bearer_back : (s : List ℕ) → 1 ≤ length s → bearer_bytes (bearer_in s) ≡ s
unfolding bearer_bytes bearer_in
bearer_back [] h = absurd (omega arith)
bearer_back (x ∷ s) h = refl

short_value : (s : List ℕ) → length s < 128 → length_bytes (length s) ++ s ≡ length s ∷ s
short_value s w = ap (λ (l : List ℕ). l ++ s) (short_length (length s) w)

-- the two bytes of a grant
size_bytes : (g : ℕ) (size : List ℕ) → g < 2 ^ 16 → size ≡ to_be_bytes w16 g → get_or size 0 0 ∷ get_or size 1 0 ∷ [] ≡ (g / 256) ∷ (g % 256) ∷ []
size_bytes g size h e =
    let high : g / 256 ^ 1 % 256 ≡ g / 256 = omega arith in
    ap (λ (l : List ℕ). get_or l 0 0 ∷ get_or l 1 0 ∷ []) e ∙ ap (λ (n : ℕ). n ∷ (g % 256) ∷ []) high

pub opened_pieces :
    (d : Details) (x g : ℕ) (n : ChannelNumber) (l : Link) (s pair size : List ℕ) → 1 ≤ length s → length s < 128 → g < 2 ^ 16 →
    pair ≡ status_bytes n l → size ≡ to_be_bytes w16 g →
    response d (error x) ++
    ((0x38 ∷ 0x02 ∷ get_or pair 0 0 ∷ get_or pair 1 0 ∷ 0x35 ∷ length s ∷ []) ++ (s ++ (0x39 ∷ 0x02 ∷ get_or size 0 0 ∷ get_or size 1 0 ∷ []))) ≡
    response d (done x (opened (record { number = n; link = l }) (bearer_in s) g))
opened_pieces d x g n l s pair size some few fits p z =
    ap (λ (q : List ℕ). told pair (length s ∷ s) q) (size_bytes g size fits z)
    ∙ ap (λ (v : List ℕ). told pair v ((g / 256) ∷ (g % 256) ∷ [])) (sym (ap (λ (v : List ℕ). length_bytes (length v) ++ v) (bearer_back s some) ∙ short_value s few))
    ∙ ap (λ (q : List ℕ). told q (length_bytes (length (bearer_bytes (bearer_in s))) ++ bearer_bytes (bearer_in s)) ((g / 256) ∷ (g % 256) ∷ [])) p
    ∙ sym (opened_by d x g n l (bearer_in s))
  where
    told : List ℕ → List ℕ → List ℕ → List ℕ
    told q v t = response d (error x) ++ (0x38 ∷ 0x02 ∷ get_or q 0 0 ∷ get_or q 1 0 ∷ 0x35 ∷ (v ++ (0x39 ∷ 0x02 ∷ t)))
