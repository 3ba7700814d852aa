-- How the printing of a reply ends.
use Rattle.std.proofs.Common.{◌≡◌, ℕ, List, [], ◌++◌, Option, Some, None, inl, inr, refl, ap, subst, ◌∙◌, append_assoc}
use Rattle.or_host.specs.Fault.{Rose}
use Rattle.or_host.specs.Text.{Grows}
use Rattle.reply_lines.specs.declared.reply.Reply.{Reply}
use Rattle.command_steps.specs.Finished.{AreSomeLines, IsCut, IsStopped, IsMemorySaid, IsFinished, IsOutOfMemory, memory_line}
use Rattle.or_host.specs.State.{SinkState}
use Rattle.command_steps.specs.Printed.{IsPrefixOf, AreFirstLines, IsFollowedBy}

pub grows : (P Q : List ℕ → Type 0) (old new : Option (List ℕ)) → ((text : List ℕ) → P text → Q text) → Grows P old new → Grows Q old new
grows P Q None new f g = tt
grows P Q (Some o) None f g = absurd g
grows P Q (Some o) (Some n) f g = (g.0, f g.0 g.1, g.2)

-- one text and then another
pub grows_on : (P Q : List ℕ → Type 0) (old mid new : Option (List ℕ)) → Grows P old mid → Grows Q mid new → Grows (IsFollowedBy P Q) old new
grows_on P Q None mid new f g = tt
grows_on P Q (Some o) None new f g = absurd f
grows_on P Q (Some o) (Some m) None f g = absurd g
grows_on P Q (Some o) (Some m) (Some n) f g =
    (f.0 ++ g.0, record { first = f.0; second = g.0; parts = refl; is_first = f.1; is_second = g.1 }, g.2 ∙ (ap (λ (l : List ℕ). l ++ g.0) f.2 ∙ append_assoc o f.0 g.0))

pub followed : (P Q E : List ℕ → Type 0) → ((text : List ℕ) → P text → Q text) → (text : List ℕ) → IsFollowedBy P E text → IsFollowedBy Q E text
followed P Q E f text t = record { first = t.first; second = t.second; parts = t.parts; is_first = f t.first t.is_first; is_second = t.is_second }

pub alone : (P E : List ℕ → Type 0) → P [] → (text : List ℕ) → E text → IsFollowedBy P E text
alone P E none text is = record { first = []; second = text; parts = refl; is_first = none; is_second = is }

-- the ends of a reply's lines
pub cut_early : (lines : List (List ℕ)) (text : List ℕ) → IsFollowedBy (AreFirstLines lines) (IsPrefixOf memory_line) text → IsCut lines text
cut_early lines text t = inr (followed (AreFirstLines lines) (AreSomeLines lines) (IsPrefixOf memory_line) (λ text first. inr first) text t)

pub stopped_early : (lines : List (List ℕ)) (text : List ℕ) → IsFollowedBy (AreFirstLines lines) IsMemorySaid text → IsStopped lines text
stopped_early lines text t = followed (AreFirstLines lines) (AreSomeLines lines) IsMemorySaid (λ text first. inr first) text t

-- the ends where nothing of the lines was printed
pub cut_alone : (lines : List (List ℕ)) (text : List ℕ) → IsPrefixOf memory_line text → IsCut lines text
cut_alone lines text is = inr (alone (AreSomeLines lines) (IsPrefixOf memory_line) (inl refl) text is)

pub stopped_alone : (lines : List (List ℕ)) (text : List ℕ) → IsMemorySaid text → IsStopped lines text
stopped_alone lines text is = alone (AreSomeLines lines) IsMemorySaid (inl refl) text is

-- memory ran out for the reply
pub not_made : (reply : Reply) (ended : ℕ) (before now : SinkState) → IsOutOfMemory ended before now → IsFinished reply ended before now
not_made reply ended before now (inl cut) = inr (inl (record { is = cut.is; text = grows (IsPrefixOf memory_line) (IsCut reply.lines) before.text now.text (cut_alone reply.lines) cut.text; rose = cut.rose }))
not_made reply ended before now (inr said) = inr (inr (record { is = said.is; text = grows IsMemorySaid (IsStopped reply.lines) before.text now.text (stopped_alone reply.lines) said.text; kept = said.kept }))

-- memory ran out at one of its lines
pub not_all : (reply : Reply) (ended : ℕ) (before mid now : SinkState) → Grows (AreFirstLines reply.lines) before.text mid.text → mid.faults ≡ before.faults → IsOutOfMemory ended mid now → IsFinished reply ended before now
not_all reply ended before mid now first kept (inl cut) =
    inr (inl (record {
      is = cut.is;
      text = grows (IsFollowedBy (AreFirstLines reply.lines) (IsPrefixOf memory_line)) (IsCut reply.lines) before.text now.text (cut_early reply.lines)
          (grows_on (AreFirstLines reply.lines) (IsPrefixOf memory_line) before.text mid.text now.text first cut.text);
      rose = subst (λ (n : ℕ). Rose n now.faults) kept cut.rose;
    }))
not_all reply ended before mid now first kept (inr said) =
    inr (inr (record {
      is = said.is;
      text = grows (IsFollowedBy (AreFirstLines reply.lines) IsMemorySaid) (IsStopped reply.lines) before.text now.text (stopped_early reply.lines)
          (grows_on (AreFirstLines reply.lines) IsMemorySaid before.text mid.text now.text first said.text);
      kept = said.kept ∙ kept;
    }))
