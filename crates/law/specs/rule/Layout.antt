-- Where the words of a heap of n cells lie in the table.
--
-- The free words come first, since a search for a free cell reads one after the other, and the notify words behind them,
-- one a line. Both have as many places as the largest heap fills, so that no place of theirs, and none of a cell's words,
-- depends on n: n would be loaded again after each step. Then come the counts. Those of neighbouring cells, which belong
-- to different threads, share no cache line: the shared word, the mutex and the owner word have one of 64 bytes, as who
-- asks for an owner has come from the shared word. An owner's count has no place. The 32 queue words of a
-- thread that one bit of its notify word names lie side by side: a poll drains them in a row, and they share no line with
-- another thread's, but at their ends.
use Rattle.std.specs.Prelude.{ℕ, ◌+◌, ◌*◌, ◌/◌, ◌%◌}
use Rattle.brc_words.specs.declared.limits.TheConstants.{MOST_CELLS, MOST_THREADS}
use Rattle.law.specs.world.Heap.{words_for}
use Rattle.law.specs.declared.known.word.Field.TheVariants.{Owner, Local, Shared, Mutex}
use Rattle.law.specs.declared.known.word.Word.{Word}
use Rattle.law.specs.declared.known.word.Word.TheVariants.{Of, Queue, NotifyWord, FreeWord}

-- the first word after the free words of the largest heap
abbrev pub notify_from : ℕ
notify_from = MOST_CELLS / 64

-- the first word after the notify words
abbrev pub counts_from : ℕ
counts_from = notify_from + (MOST_THREADS + 1) * 8

-- the first word after the counts
abbrev pub queues_from : ℕ → ℕ
queues_from n = counts_from + n * 8

-- how many rows of 32 queue words a thread has
abbrev pub rows_for : ℕ → ℕ
rows_for n = (words_for n + 31) / 32

abbrev pub spot : ℕ → Word → ℕ
spot n (Of Local c) = 0
spot n (Of Shared c) = counts_from + c * 8
spot n (Of Mutex c) = counts_from + c * 8 + 1
spot n (Of Owner c) = counts_from + c * 8 + 2
spot n (Queue t k) = queues_from n + (k / 32 * (MOST_THREADS + 1) + t) * 32 + k % 32
spot n (NotifyWord t) = notify_from + t * 8
spot n (FreeWord k) = k

-- how many words the table has: the queue words come last, row 0 of all threads, then row 1 of all
abbrev pub extent : ℕ → ℕ
extent n = queues_from n + rows_for n * (MOST_THREADS + 1) * 32
