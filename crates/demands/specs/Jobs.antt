-- 02, i: "Texts stand one behind the other in one output", and "demands 2 and 3 hold for each accepted job". What stands in the output after the call for a list of jobs.
-- One job adds the text of its tree behind what was there, or nothing (`one_adds`); so the output is the texts in order and then what it was (`texts_in_order`), each text
-- stands where its job says (`job_text`), and it is read back (`job_reads_back`). And 02, xiii: bytes that no record of a job's tree names do not show (`jobs_alike`).
use Rattle.std.specs.Prelude.{ℕ, ◌+◌, ◌≤◌, ◌≡◌, refl, Bool, true, false, cond, eqb, length, take, drop, Ok, Err}
use Rattle.std.proofs.Common.{arith, add-zero, zero-add, ◌∙◌, ap, sym, length-append, length-drop, take-append-drop, length-take-le, take_at, drop_at, drop-drop, eq-eqb, eqb-true}
use mathlib.Core.List.{List, [], ◌∷◌, ◌++◌, append_assoc, Memᴰ}
use Rattle.std.proofs.Math.Seq.{take-append_seam, drop-append-add}
use Rattle.std.proofs.lemmas.Bool.{eqb-false}
use Rattle.mode.specs.declared.Mode.{Mode}
use Rattle.tree.specs.Check.{Admitted, ChecksIn}
use Rattle.tokens.specs.Tokens.{tokens_of, in_edition}
use Rattle.admitted.specs.Named.{Agree}
use Rattle.render.specs.declared.Refusal.TheVariants.{Tree, NoRoom}
use Rattle.render.specs.declared.jobs.Job.{Job}
use Rattle.render.specs.Render.{Outcome, text_in, output_after, number_of, place_of}
use Rattle.render.specs.Jobs.{outside, tree_of, written, Called, Single, InOrder, none, one, RendersJobs}
use Rattle.render.proofs.JobsLaws.{single_room, jobs_same}
use Rattle.reading.specs.Reading.{Lexed, Cuts}
use Rattle.reading.specs.Readable.{Readable}
use Rattle.reading.proofs.Demand3.{tree_gives_back}
use Rattle.demands.specs.Demands.{outcome_is}
use Rattle.demands.specs.Named.{rendered_alike}

-- ---- what an outcome adds: a text that is accepted, and else nothing
abbrev accepted : Outcome → List ℕ → List ℕ
accepted o text = cond (eqb (number_of o) 0) text []

record Added (o : Outcome) (text rest room : List ℕ) : Type 0 where
  adds : room ≡ accepted o text ++ drop (written o) rest
  counts : written o ≡ length (accepted o text)
  says : number_of o ≡ 0 → place_of o ≡ length (accepted o text)

outcome_adds : (o : Outcome) (text rest room : List ℕ) → (number_of o ≡ 0 → o ≡ Ok (length text)) → room ≡ output_after o text rest → Added o text rest room
unfolding output_after
outcome_adds (Ok n) text rest room d w = let l : n ≡ length text = ap place_of (d refl) in record { adds = w; counts = l; says = λ _. l }
outcome_adds (Err (Tree r)) text rest room d w = by (eqb (number_of (Err (Tree r))) 0) refl
  where
    by : (b : Bool) → eqb (number_of (Err (Tree r))) 0 ≡ b → Added (Err (Tree r)) text rest room
    by true q = let e = d (eqb-true (number_of (Err (Tree r))) 0 q) in absurd (cc)
    by false q = record { adds = rw q w; counts = rw q; says = λ z. absurd (eqb-false (number_of (Err (Tree r))) 0 q z) }
outcome_adds (Err (NoRoom n)) text rest room d w = record { adds = w; counts = refl; says = λ z. absurd (omega arith) }

module _ (m : Mode) (trees x : List ℕ) where
  -- the text of a job that is accepted, where k is the job after the call; a refused one has none
  abbrev pub text_for : Job → Job → List ℕ
  text_for j k = cond (eqb k.refusal 0) (text_in m.edition (tree_of trees j) x) []

  -- the texts of all, in order
  abbrev pub texts_for : List Job → List Job → List ℕ
  texts_for [] ks = []
  texts_for (j ∷ js) [] = []
  texts_for (j ∷ js) (k ∷ ks) = text_for j k ++ texts_for js ks

  -- ---- one job
  record Adds (j : Job) (out : List ℕ) (at : ℕ) (k : Job) (mid : List ℕ) (next : ℕ) : Type 0 where
    adds : mid ≡ take at out ++ (text_for j k ++ drop next out)
    ends : next ≡ at + length (text_for j k)
    starts : k.out_start ≡ at
    says : k.refusal ≡ 0 → k.place ≡ length (text_for j k)

  called_adds : {j k : Job} {out mid : List ℕ} {at next : ℕ} → Called m (tree_of trees j) x j out at k mid next → Adds j out at k mid next
  called_adds {j} {k} {out} {mid} {at} {next} c =
      let text = text_in m.edition (tree_of trees j) x in
      let d = outcome_adds c.outcome text (drop at out) c.room (outcome_is c.renders) c.renders.writes in
      record {
        adds = rw (c.job, c.output, d.adds, c.behind, drop-drop (written c.outcome) at out);
        ends = rw c.job (c.behind ∙ ap (λ (n : ℕ). at + n) d.counts);
        starts = ap (λ (i : Job). i.out_start) c.job;
        says = rw c.job d.says;
      }

  one_adds : {j k : Job} {out mid : List ℕ} {at next : ℕ} → Single m trees x j out at k mid next → Adds j out at k mid next
  one_adds {j} {k} {out} {mid} {at} {next} s = by (outside trees j) refl
    where
      by : (b : Bool) → outside trees j ≡ b → Adds j out at k mid next
      by true e =
          let u = s.beyond e in
          record {
            adds = rw (u.0, u.1.0, u.1.1) (sym (take-append-drop at out));
            ends = rw u.0 (u.1.1 ∙ sym (add-zero at));
            starts = ap (λ (i : Job). i.out_start) u.0;
            says = rw u.0 (λ z. absurd (omega arith));
          }
      by false e = called_adds (s.within e)

  -- ---- all jobs, from a start on that is in the output
  record Filled (js : List Job) (out : List ℕ) (at : ℕ) (ks : List Job) (out' : List ℕ) (end : ℕ) : Type 0 where
    fills : out' ≡ take at out ++ (texts_for js ks ++ drop end out)
    ends : end ≡ at + length (texts_for js ks)

  -- what one job and then the others fill
  module _ {j k : Job} {out mid : List ℕ} {at next : ℕ} (h : at ≤ length out) (a : Adds j out at k mid next) where
    -- up to the start of the next text, and behind it
    abbrev before : List ℕ
    before = take at out ++ text_for j k

    before_length : length before ≡ next
    before_length = length-append (take at out) (text_for j k) ∙ rw (length-take-le at out h) (sym a.ends)

    mid_is : mid ≡ before ++ drop next out
    mid_is = a.adds ∙ sym (append_assoc (take at out) (text_for j k) (drop next out))

    taken : take next mid ≡ before
    taken = rw mid_is (take_at before (drop next out) next before_length)

    dropped : (n : ℕ) → drop (next + n) mid ≡ drop (next + n) out
    dropped n = rw (mid_is, ← before_length) (drop-append-add before (drop (length before) out) n ∙ drop-drop n (length before) out)

    then : {js ks : List Job} {out' : List ℕ} {end : ℕ} → Filled js mid next ks out' end → Filled (j ∷ js) out at (k ∷ ks) out' end
    then {js} {ks} {out'} {end} f =
        record {
          fills =
              f.fills
              ∙ rw (f.ends, taken, dropped (length (texts_for js ks)), append_assoc (take at out) (text_for j k), append_assoc (text_for j k) (texts_for js ks));
          ends = rw (length-append (text_for j k) (texts_for js ks)) (omega (arith, f.ends, a.ends));
        }

    in_mid : next ≤ length out → next ≤ length mid
    in_mid l = rw (mid_is, length-append before (drop next out), before_length, length-drop next out) (omega arith)

  filled : {js ks : List Job} {out out' : List ℕ} {at end : ℕ} → at ≤ length out → InOrder m trees x js out at ks out' end → Filled js out at ks out' end
  filled {out = out} {at = at} h none = record { fills = sym (take-append-drop at out); ends = sym (add-zero at) }
  filled h (one s rest) = let a = one_adds s in then h a (filled (in_mid h a (single_room s h)) rest)

  -- "Texts stand one behind the other in one output"; "The call answers with the bytes written in all"
  pub texts_in_order : {js ks : List Job} {out out' : List ℕ} {answer : ℕ} → RendersJobs m trees x js out ks out' answer
      → (out' ≡ texts_for js ks ++ drop answer out) × (answer ≡ length (texts_for js ks))
  texts_in_order {js} {ks} r = let f = filled (omega arith) r in (f.fills, f.ends ∙ zero-add (length (texts_for js ks)))

  -- ---- one of the jobs, before the call and after it
  pub data Among (j k : Job) : List Job → List Job → Type 0 where
    here : {js ks : List Job} → Among j k (j ∷ js) (k ∷ ks)
    there : {i l : Job} {js ks : List Job} → Among j k js ks → Among j k (i ∷ js) (l ∷ ks)

  here_text : {j k : Job} {js ks : List Job} {out mid out' : List ℕ} {at next end : ℕ} → at ≤ length out → Adds j out at k mid next → Filled js mid next ks out' end
      → take (length (text_for j k)) (drop k.out_start out') ≡ text_for j k
  here_text {j} {k} {js} {ks} {out} {mid} {out'} {at} {next} {end} h a f =
      let rest = texts_for js ks ++ drop end mid in
      let whole : out' ≡ take at out ++ (text_for j k ++ rest) = f.fills ∙ rw (taken h a, append_assoc (take at out) (text_for j k) rest) in
      rw (a.starts, whole, drop_at (take at out) (text_for j k ++ rest) at (length-take-le at out h), take-append_seam (text_for j k) rest)

  stands : {j k : Job} {js ks : List Job} {out out' : List ℕ} {at end : ℕ} → at ≤ length out → Among j k js ks → InOrder m trees x js out at ks out' end
      → k.refusal ≡ 0 → (k.place ≡ length (text_for j k)) × (take (length (text_for j k)) (drop k.out_start out') ≡ text_for j k)
  stands h here (one s rest) z = let a = one_adds s in (a.says z, here_text h a (filled (in_mid h a (single_room s h)) rest))
  stands h (there w) (one s rest) z = let a = one_adds s in stands (in_mid h a (single_room s h)) w rest z

  -- demand 2 for each accepted job: from its start on stand as many bytes as its place says, and they are the text of its tree
  module _ {j k : Job} {js ks : List Job} {out out' : List ℕ} {answer : ℕ} (among : Among j k js ks) (renders : RendersJobs m trees x js out ks out' answer) (accepts : k.refusal ≡ 0) where
    pub job_text : take k.place (drop k.out_start out') ≡ text_in m.edition (tree_of trees j) x
    job_text =
        let s = stands (omega arith) among renders accepts in
        let t : text_for j k ≡ text_in m.edition (tree_of trees j) x = rw (eq-eqb k.refusal 0 accepts) in
        rw s.0 (s.1 ∙ t)

    -- demand 3: if the tokens of its tree are readable, these bytes are cut back into their lexemes
    pub job_reads_back : {lexemes : List Lexed} → Readable (tokens_of (in_edition (tree_of trees j) x m.edition)) lexemes → Cuts (take k.place (drop k.out_start out')) lexemes []
    job_reads_back {lexemes} r = rw job_text (tree_gives_back (in_edition (tree_of trees j) x m.edition) lexemes r)

-- ---- 02, xiii: two texts that agree on every part that a record of a job's tree names, both admitted with each tree that is there
module _ (m : Mode) (trees x y : List ℕ) where
  pub record Alike (j : Job) : Type 0 where
    pub agree : Agree (tree_of trees j) x y
    pub admits : ChecksIn m (tree_of trees j) x Admitted
    pub too : ChecksIn m (tree_of trees j) y Admitted

  -- the jobs, the output and the answer are the same
  pub jobs_alike : {js a b : List Job} {out k l : List ℕ} {n p : ℕ} → ((j : Job) → Memᴰ j js → outside trees j ≡ false → Alike j)
      → RendersJobs m trees x js out a k n → RendersJobs m trees y js out b l p → (a ≡ b) × ((k ≡ l) × (n ≡ p))
  jobs_alike alike = jobs_same m trees x y (λ j i e out k l o p f g. let w = alike j i e in rendered_alike w.agree w.admits w.too f g)
