-- M-110 with bursts among the calls: two bursts of as many bytes, whose frames are alike, end at the same byte and alike but for the data.
-- Assumes nothing.
use Prim.Native.Nat.{ℕ, suc, ◌-◌}
use mathlib.Core.Path.{◌≡◌, refl, sym, ap, subst, subst₂, ◌∙◌}
use mathlib.Core.Bool.{Bool, true, false, ◌&&◌, false≢true}
use mathlib.Core.List.{List, [], ◌∷◌, ◌++◌, append_assoc, append-nil}
use native.Mathlib.Omega.{arith}
use lib.ListN.{length, get_or, take, drop, length-append}
use lib.Dec.{ltb, leb, eqb}
use borrow.Author.Tests.{eq-eqb, ne_eqb, ltb-true}
use Rattle.rules.specs.declared.ChannelNumber.{ChannelNumber}
use Rattle.rules.specs.declared.Refusal.TheVariants.{CommandSize}
use Rattle.rules.specs.declared.Stage.{Stage}
use Rattle.rules.specs.declared.Stage.TheVariants.{Lacks, Overlong, Decided}
use Rattle.rules.specs.Checks.{◌⇒◌else◌, is_empty, same}
use Rattle.rules.specs.Results.{response_cap}
use Rattle.rules.specs.Frames.{LengthRead, long_length, length_at, length_bytes}
use Rattle.rules.specs.State.{State, start}
use Rattle.rules.specs.Command.{answered, refusal, Terms, command}
use Rattle.rules.specs.Fetch.{length_to_come, lacking_by, stage_by, stage, taken_at, one_more, Fetched, goes_on, burst, fetch}
use Rattle.rules.specs.Radio.{numbered}
use Rattle.rules.specs.Run.{Call, commanding, step}
use Rattle.rules.specs.Acts.{Act, calls, bursts, clears, Acted, acted}
use Rattle.rules.specs.Separation.{framing, LikeCall, LikeOutcome, Like, outer_head, LikeTaken, Shown, Did, does, shown_by, taken_by, gathered_after_lem, LikeAct, LikeShown, LikeActs, LikeShowns, LikeGathered}
use Rattle.rules.proofs.Laws.{branch, branch₂, stop, skip}
use Rattle.rules.proofs.Forms.{length_back}
use Rattle.rules.proofs.Acts.{taken_back, gathered_told}
use Rattle.rules.proofs.SeparationBytes.{data_frames}
use Rattle.rules.proofs.SeparationCalls.{LikeAnswer, like_same}
use Rattle.rules.proofs.Separation.{step_like}

-- behind the same first two bytes, as many bytes, and behind 81 the same byte: the same stage

-- the length that is read there
same_length : (k : ℕ) (b : ℕ) (s t : List ℕ) → length s ≡ length t → (eqb b 0x81 ≡ true → take 1 s ≡ take 1 t) → stage_by k (length_at (b ∷ s)) ≡ stage_by k (length_at (b ∷ t))
unfolding stage_by length_at long_length
same_length k b s t e h =
    let R : LengthRead → LengthRead → Type 0 = λ (l m : LengthRead). stage_by k l ≡ stage_by k m in
    branch₂ R _ _ _ _ _ _ refl (λ _. ap (λ (j : ℕ). lacking_by k (b - j)) e) (λ _.
    branch₂ R _ _ _ _ _ _ refl (λ z. longer s t e (h z)) (λ _. refl))
  where
    longer : (s t : List ℕ) → length s ≡ length t → take 1 s ≡ take 1 t → stage_by k (long_length s) ≡ stage_by k (long_length t)
    longer [] [] e h = refl
    longer [] (d ∷ t) e h = absurd (let q : 0 ≡ suc (length t) = e in omega arith)
    longer (d ∷ s) [] e h = absurd (let q : suc (length s) ≡ 0 = e in omega arith)
    longer (c ∷ s) (d ∷ t) e h =
        let same_byte = ap (λ (l : List ℕ). get_or l 0 0) h in
        let long : length s ≡ length t = let q : suc (length s) ≡ suc (length t) = e in omega arith in
        branch₂ (λ (l m : LengthRead). stage_by k l ≡ stage_by k m) _ _ _ _ _ _ (ap (leb 0x80) same_byte) (λ _. λ i. lacking_by k (same_byte i - long i)) (λ _. refl)

to_come_like : (b : ℕ) (s t : List ℕ) → length s ≡ length t → length_to_come (b ∷ s) ≡ length_to_come (b ∷ t)
unfolding length_to_come is_empty same
to_come_like b [] [] e = refl
to_come_like b [] (d ∷ t) e = absurd (let q : 0 ≡ suc (length t) = e in omega arith)
to_come_like b (c ∷ s) [] e = absurd (let q : suc (length s) ≡ 0 = e in omega arith)
to_come_like b (c ∷ s) (d ∷ t) e = refl

same_stage : (b c : ℕ) (s t : List ℕ) → length s ≡ length t → (eqb c 0x81 ≡ true → take 1 s ≡ take 1 t) → stage (b ∷ c ∷ s) ≡ stage (b ∷ c ∷ t)
unfolding stage is_empty
same_stage b c s t e h =
    let R : Stage → Stage → Type 0 = λ (x y : Stage). x ≡ y in
    branch₂ R _ _ _ _ _ _ refl (λ _. refl) (λ _.
    branch₂ R _ _ _ _ _ _ refl (λ _. refl) (λ _.
    branch₂ R _ _ _ _ _ _ (to_come_like c s t e) (λ _. refl) (λ _.
    ap (λ (k : ℕ). stage_by (suc (suc k)) (length_at (c ∷ s))) e ∙ same_length (suc (suc (length t))) c s t e h)))

-- the first two bytes of an outer head, and the third where the second is 81
head_bytes : (z : Bool) (b c : ℕ) (s : List ℕ) → take 2 (take (z ⇒ 3 else 2) (b ∷ c ∷ s)) ≡ b ∷ c ∷ []
unfolding ◌⇒◌else◌
head_bytes true b c [] = refl
head_bytes true b c (d ∷ s) = refl
head_bytes false b c s = refl

third_byte :
    (z w : Bool) (b x c y : ℕ) (s t : List ℕ) → z ≡ true → w ≡ true → take (z ⇒ 3 else 2) (b ∷ x ∷ s) ≡ take (w ⇒ 3 else 2) (c ∷ y ∷ t) → take 1 s ≡ take 1 t
unfolding ◌⇒◌else◌
third_byte z w b x c y s t e f h =
    let three : take 3 (b ∷ x ∷ s) ≡ take 3 (c ∷ y ∷ t) = subst₂ (λ (v u : Bool). take (v ⇒ 3 else 2) (b ∷ x ∷ s) ≡ take (u ⇒ 3 else 2) (c ∷ y ∷ t)) e f h in
    ap (drop 2) three

-- as many bytes with the same outer head have the same stage
pub stage_by_head : (s t : List ℕ) → length s ≡ length t → outer_head s ≡ outer_head t → stage s ≡ stage t
unfolding outer_head ◌⇒◌else◌
stage_by_head [] [] e h = refl
stage_by_head [] (c ∷ t) e h = absurd (let q : 0 ≡ suc (length t) = e in omega arith)
stage_by_head (b ∷ s) [] e h = absurd (let q : suc (length s) ≡ 0 = e in omega arith)
stage_by_head (b ∷ []) (c ∷ []) e h = ap stage h
stage_by_head (b ∷ []) (c ∷ d ∷ t) e h = absurd (let q : 1 ≡ suc (suc (length t)) = e in omega arith)
stage_by_head (b ∷ x ∷ s) (c ∷ []) e h = absurd (let q : suc (suc (length s)) ≡ 1 = e in omega arith)
stage_by_head (b ∷ x ∷ s) (c ∷ y ∷ t) e h =
    let two = sym (head_bytes (eqb x 0x81) b x s) ∙ ap (take 2) h ∙ head_bytes (eqb y 0x81) c y t in
    let first = ap (λ (l : List ℕ). get_or l 0 0) two in
    let next = ap (λ (l : List ℕ). get_or l 1 0) two in
    let long : length s ≡ length t = let q : suc (suc (length s)) ≡ suc (suc (length t)) = e in omega arith in
    same_stage b x s t long (λ z. third_byte (eqb x 0x81) (eqb y 0x81) b x c y s t z (ap (λ (k : ℕ). eqb k 0x81) (sym next) ∙ z) h) ∙ (λ i. stage (first i ∷ next i ∷ t))

-- a right frame is decided, whatever stands in it

-- the length is there
length_here : (n : ℕ) (s : List ℕ) → length_to_come (length_bytes n ++ s) ≡ false
unfolding length_to_come length_bytes is_empty same
length_here n s =
    branch (λ (l : List ℕ). length_to_come (l ++ s) ≡ false) (ltb n 0x80) (n ∷ []) (0x81 ∷ n ∷ [])
    (λ e. let less = ltb-true n 0x80 e in ap (λ (b : Bool). b && same s []) (ne_eqb n 0x81 (λ q. omega (arith, q, less)))) (λ _. refl)

pub framing_decided : (s : List ℕ) → stage (framing s) ≡ Decided
unfolding stage is_empty stage_by lacking_by
framing_decided s =
    let none : length s - length s ≡ 0 = omega arith in
    skip _ _ _ refl ∙ skip _ _ _ refl ∙ skip _ _ _ (length_here (length s) s) ∙ ap (stage_by (length (framing s))) (length_back (length s) s)
    ∙ stop _ _ _ (eq-eqb (length s - length s) 0 none)

-- where a burst is cut: the bytes that it takes, those left, and what comes of it in any session
unfoldable concluded : State → Terms → List ℕ → List ℕ → Stage → Fetched
concluded a terms g u (Lacks n) = record { answer = answered a []; gathered = g; left = u }
concluded a terms g u Overlong = record { answer = refusal a CommandSize; gathered = []; left = u }
concluded a terms g u Decided = record { answer = command a terms g; gathered = []; left = u }

-- what is left does not go by the stage
concluded_left : (a : State) (terms : Terms) (g u : List ℕ) (k : Stage) → (concluded a terms g u k).left ≡ u
unfolding concluded
concluded_left a terms g u (Lacks n) = refl
concluded_left a terms g u Overlong = refl
concluded_left a terms g u Decided = refl

record Cut (terms : Terms) (g s : List ℕ) : Type 0 where
  taken : List ℕ
  left : List ℕ
  parts : s ≡ taken ++ left
  is : (a : State) → burst a terms g s ≡ concluded a terms (g ++ taken) left (stage (g ++ taken))

-- byte after byte
cut : (terms : Terms) (g s : List ℕ) (k : ℕ) → stage g ≡ Lacks k → Cut terms g s
unfolding burst one_more taken_at goes_on concluded
cut terms g [] k e =
    let whole = append-nil g in
    record {
      taken = [];
      left = [];
      parts = refl;
      is = λ a. ap (λ (x : Stage). concluded a terms g [] x) (sym e) ∙ ap (λ (x : List ℕ). concluded a terms x [] (stage x)) (sym whole);
    }
cut terms g (b ∷ s) k e = by (λ n q. cut terms (g ++ b ∷ []) s n q) (stage (g ++ b ∷ [])) refl
  where
    -- at the first byte the call ends
    here : (y : Stage) → stage (g ++ b ∷ []) ≡ y → ((a : State) → goes_on (taken_at a terms (g ++ b ∷ []) y) s (λ (h : List ℕ). burst a terms h s) ≡ concluded a terms (g ++ b ∷ []) s y) → Cut terms g (b ∷ s)
    here y q f =
        record {
          taken = b ∷ [];
          left = s;
          parts = refl;
          is = λ a. ap (λ (z : Stage). goes_on (taken_at a terms (g ++ b ∷ []) z) s (λ (h : List ℕ). burst a terms h s)) q ∙ f a ∙ ap (concluded a terms (g ++ b ∷ []) s) (sym q);
        }

    by : ((n : ℕ) → stage (g ++ b ∷ []) ≡ Lacks n → Cut terms (g ++ b ∷ []) s) → (y : Stage) → stage (g ++ b ∷ []) ≡ y → Cut terms g (b ∷ s)
    by next (Lacks n) q =
        let rest = next n q in
        record {
          taken = b ∷ rest.taken;
          left = rest.left;
          parts = ap (λ (l : List ℕ). b ∷ l) rest.parts;
          is =
              λ a.
              ap (λ (z : Stage). goes_on (taken_at a terms (g ++ b ∷ []) z) s (λ (h : List ℕ). burst a terms h s)) q ∙ rest.is a
              ∙ ap (λ (l : List ℕ). concluded a terms l rest.left (stage l)) (append_assoc g (b ∷ []) rest.taken);
        }
    by next Overlong q = here Overlong q (λ a. refl)
    by next Decided q = here Decided q (λ a. refl)

-- two such cuts: as many bytes of the same stage; where they are decided two commands that are alike, where more is to come the same outer head
record LikeCut (n : ChannelNumber) (x y : List ℕ) : Type 0 where
  long : length x ≡ length y
  staged : stage x ≡ stage y
  call : (terms : Terms) → stage x ≡ Decided → LikeCall n (commanding terms x) (commanding terms y)
  head : (k : ℕ) → stage x ≡ Lacks k → outer_head x ≡ outer_head y

-- what is decided lacks nothing
no_stage : (x : Stage) (k : ℕ) → x ≡ Decided → x ≡ Lacks k → ⊥
no_stage x k e f = let z : Decided ≡ Lacks k = sym e ∙ f in false≢true (cc)

-- from what is taken
cut_like : (n : ChannelNumber) {x y : List ℕ} → LikeTaken n x y → LikeCut n x y
cut_like n (LikeTaken.equal s) = record { long = refl; staged = refl; call = λ terms _. LikeCall.equal _; head = λ _ _. refl }
cut_like n (LikeTaken.sends s t h) =
    let d = ap stage h.stands ∙ framing_decided (h.front ++ (h.value ++ h.behind)) in
    record {
      long = (data_frames n s t h).long;
      staged = d ∙ sym (ap stage h.replaced ∙ framing_decided (h.front ++ (h.other ++ h.behind)));
      call = λ terms _. LikeCall.sends terms s t h;
      head = λ k q. absurd (no_stage _ k d q);
    }
cut_like n (LikeTaken.begun s t k e l h) =
    record { long = l; staged = stage_by_head s t l h; call = λ terms q. absurd (no_stage _ k q e); head = λ _ _. h }

-- nothing gathered
none_like : LikeGathered [] []
unfolding stage is_empty ◌⇒◌else◌
none_like = record { count = 1; lacks = refl; long = refl; head = refl }

-- what two bursts come to
record LikeFetched (n : ChannelNumber) (c : Call) (f q : Fetched) : Type 0 where
  answer : LikeAnswer n c f.answer q.answer
  gathered : LikeGathered f.gathered q.gathered
  left : length f.left ≡ length q.left

module _ (n : ChannelNumber) (numbers : numbered n ≡ true) (a b : State) (h : Like n a b) (terms : Terms) where
  -- what is concluded of them, by their stage
  concluded_like :
      (x y u v : List ℕ) (k : Stage) → LikeCut n x y → stage x ≡ k → length u ≡ length v →
      LikeFetched n (commanding terms x) (concluded a terms x u k) (concluded b terms y v k)
  unfolding concluded step
  concluded_like x y u v (Lacks m) l e w =
      record {
        answer = record { state = h; outcome = LikeOutcome.equal _ _ };
        gathered = record { count = m; lacks = e; long = l.long; head = l.head m e };
        left = w;
      }
  concluded_like x y u v Overlong l e w = record { answer = record { state = h; outcome = LikeOutcome.equal _ _ }; gathered = none_like; left = w }
  concluded_like x y u v Decided l e w = record { answer = step_like n numbers a b h (l.call terms e); gathered = none_like; left = w }

  -- bursts that are cut alike come to the same, but for the data
  burst_like :
      (g k s t : List ℕ) (x : Cut terms g s) (y : Cut terms k t) → length g ≡ length k → length s ≡ length t → LikeCut n (g ++ x.taken) (k ++ y.taken) →
      LikeFetched n (commanding terms (g ++ x.taken)) (burst a terms g s) (burst b terms k t)
  burst_like g k s t x y e w l =
      let left : length x.left ≡ length y.left =
      omega (arith, e, w, l.long, ap length x.parts, ap length y.parts, length-append x.taken x.left, length-append y.taken y.left, length-append g x.taken, length-append k y.taken) in
      subst₂ (LikeFetched n (commanding terms (g ++ x.taken))) (sym (x.is a)) (sym (y.is b))
      (subst (λ (z : Stage). LikeFetched n (commanding terms (g ++ x.taken)) (concluded a terms (g ++ x.taken) x.left (stage (g ++ x.taken))) (concluded b terms (k ++ y.taken) y.left z)) l.staged
      (concluded_like (g ++ x.taken) (k ++ y.taken) x.left y.left (stage (g ++ x.taken)) l refl left))

-- the bytes that a burst takes, where it is taken, are those of its cut
taken_cut : (terms : Terms) (g s : List ℕ) (x : Cut terms g s) → ltb terms.buffer response_cap ≡ false → taken_by terms g s ≡ g ++ x.taken
unfolding fetch
taken_cut terms g s x e =
    let f : (fetch (start []) terms g s).left ≡ x.left = ap (λ (z : Fetched). z.left) (skip _ _ _ e ∙ x.is (start [])) ∙ concluded_left _ _ _ _ (stage (g ++ x.taken)) in
    ap (λ (u : List ℕ). g ++ take (length s - length u) s) f ∙ ap (λ (u : List ℕ). g ++ u) (taken_back s x.taken x.left x.parts)

-- what is gathered behind a burst goes by the terms and the bytes
gathered_anywhere : (a b : State) (terms : Terms) (g s : List ℕ) (k : ℕ) → stage g ≡ Lacks k → (fetch a terms g s).gathered ≡ (fetch b terms g s).gathered
unfolding fetch concluded
gathered_anywhere a b terms g s k e =
    let x = cut terms g s k e in
    let R : Fetched → Fetched → Type 0 = λ (f q : Fetched). f.gathered ≡ q.gathered in
    branch₂ R _ _ _ _ _ _ refl (λ _. refl) (λ _. subst₂ R (sym (x.is a)) (sym (x.is b)) (kept (g ++ x.taken) x.left (stage (g ++ x.taken))))
  where
    kept : (y u : List ℕ) (z : Stage) → (concluded a terms y u z).gathered ≡ (concluded b terms y u z).gathered
    kept y u (Lacks n) = refl
    kept y u Overlong = refl
    kept y u Decided = refl

module _ (n : ChannelNumber) (numbers : numbered n ≡ true) (a b : State) (h : Like n a b) (g k : List ℕ) (l : LikeGathered g k) where
  -- the fetch call
  fetch_like :
      (terms : Terms) (s t : List ℕ) → length s ≡ length t → LikeTaken n (taken_by terms g s) (taken_by terms k t) →
      LikeFetched n (commanding terms (taken_by terms g s)) (fetch a terms g s) (fetch b terms k t)
  unfolding fetch
  fetch_like terms s t w m =
      let c = commanding terms (taken_by terms g s) in
      let x = cut terms g s l.count l.lacks in
      let y = cut terms k t l.count (sym (stage_by_head g k l.long l.head) ∙ l.lacks) in
      branch₂ (LikeFetched n c) _ _ _ _ _ _ refl
      (λ _. record { answer = record { state = h; outcome = LikeOutcome.equal _ _ }; gathered = l; left = w })
      (λ e.
      let p = taken_cut terms g s x e in
      let q = taken_cut terms k t y e in
      subst (λ (z : List ℕ). LikeFetched n (commanding terms z) (burst a terms g s) (burst b terms k t)) (sym p)
      (burst_like n numbers a b h terms g k s t x y l.long w (cut_like n (subst₂ (LikeTaken n) p q m))))

  -- two acts that are alike
  record LikeDid (x : Act) (r q : Did) : Type 0 where
    state : Like n r.state q.state
    gathered : LikeGathered r.gathered q.gathered
    shown : LikeShown n g x r.shown q.shown

  act_like : {x y : Act} → LikeAct n g k x y → LikeDid x (does a g x) (does b k y)
  unfolding does
  act_like (LikeAct.called c d m) =
      let r = step_like n numbers a b h m in record { state = r.state; gathered = l; shown = LikeShown.called c _ _ r.outcome }
  act_like (LikeAct.burst terms s t w m) =
      let r = fetch_like terms s t w m in
      record {
        state = r.answer.state;
        gathered = r.gathered;
        shown =
            subst (λ (j : ℕ). LikeShown n g (bursts terms s) (does a g (bursts terms s)).shown (record { outcome = (fetch b terms k t).answer.outcome; left = j })) r.left
            (LikeShown.burst terms s _ _ _ r.answer.outcome);
      }
  act_like LikeAct.cleared = record { state = h; gathered = none_like; shown = LikeShown.equal _ _ }

-- what is gathered behind an act, whatever the session
gathered_after : (a : State) (g : List ℕ) (x : Act) (k : ℕ) → stage g ≡ Lacks k → (does a g x).gathered ≡ gathered_after_lem g x
unfolding does
gathered_after a g (calls c) k e = refl
gathered_after a g (bursts terms s) k e = gathered_anywhere a (start []) terms g s k e
gathered_after a g clears k e = refl

-- acts in turn, by what the first comes to
pub acted_next :
    (a : State) (g : List ℕ) (x : Act) (xs : List Act) → let r = does a g x in let q = acted r.state r.gathered xs in
    (q.state ≡ (acted a g (x ∷ xs)).state) × (q.gathered ≡ (acted a g (x ∷ xs)).gathered)
unfolding acted does
acted_next a g (calls c) xs = (refl, refl)
acted_next a g (bursts terms s) xs =
    let f = fetch a terms g s in
    let e = gathered_told a terms g s in
    (ap (λ (u : List ℕ). (acted f.answer.state u xs).state) e, ap (λ (u : List ℕ). (acted f.answer.state u xs).gathered) e)
acted_next a g clears xs = (refl, refl)

-- what two lists of acts come to
pub record LikeActed (n : ChannelNumber) (g : List ℕ) (xs : List Act) (os qs : List Shown) (r q : Acted) : Type 0 where
  pub seen : LikeShowns n g xs os qs
  pub state : Like n r.state q.state
  pub gathered : LikeGathered r.gathered q.gathered

abbrev Come : ChannelNumber → State → State → List ℕ → List ℕ → List ℕ → List Act → List Act → Type 0
Come n a b j g k xs ys = LikeActed n j xs (shown_by a g xs) (shown_by b k ys) (acted a g xs) (acted b k ys)

acts_like :
    (n : ChannelNumber) → numbered n ≡ true → (a b : State) → Like n a b → {g k : List ℕ} {xs ys : List Act} → LikeGathered g k → LikeActs n g k xs ys →
    LikeActed n g xs (shown_by a g xs) (shown_by b k ys) (acted a g xs) (acted b k ys)
unfolding shown_by acted
acts_like n numbers a b h l (LikeActs.ends g k) = record { seen = LikeShowns.ends g; state = h; gathered = l }
acts_like n numbers a b h l (LikeActs.more g k x y xs ys m ms) =
    let r = act_like n numbers a b h g k l m in
    let e = gathered_after a g x l.count l.lacks in
    let f = gathered_after b k y l.count (sym (stage_by_head g k l.long l.head) ∙ l.lacks) in
    let A = (does a g x).state in
    let B = (does b k y).state in
    let rest =
    subst₂ (λ (u v : List ℕ). Come n A B (gathered_after_lem g x) u v xs ys) (sym e) (sym f)
    (acts_like n numbers A B r.state (subst₂ LikeGathered e f r.gathered) ms) in
    let one = acted_next a g x xs in
    let other = acted_next b k y ys in
    record {
      seen = LikeShowns.more g x _ _ xs _ _ r.shown rest.seen;
      state = subst₂ (Like n) one.0 other.0 rest.state;
      gathered = subst₂ LikeGathered one.1 other.1 rest.gathered;
    }

-- M-110 with bursts: two hosts that start with the same profile and whose acts differ in the data of the channel n alone see the same, act by act, but for that data;
-- they are left with states that are equal but for the bytes that n holds, and with as many bytes gathered
pub acts_separation :
    (n : ChannelNumber) → numbered n ≡ true → (p : List ℕ) {xs ys : List Act} → LikeActs n [] [] xs ys →
    LikeActed n [] xs (shown_by (start p) [] xs) (shown_by (start p) [] ys) (acted (start p) [] xs) (acted (start p) [] ys)
acts_separation n numbers p l = acts_like n numbers (start p) (start p) (like_same n (start p)) none_like l
