-- The written subcircuits of one read-only memory, spelled out: 32 words of 2 bits, in one bank of 16 rows of two words.
-- Written by an independent program; a kit's cells have its own names.
use Rattle.std.specs.Prelude.{◌≡◌, ℕ, List, [], ◌∷◌, codes, if◌then◌else◌}
use Rattle.netlist.specs.declared.deck.Subckt.{Subckt}
use Rattle.sram_netlist.specs.Organization.{Organization}
use Rattle.sram_netlist.specs.BitCells.{BitCells, Apart, fixed_bit}
use Rattle.sram_deck.specs.Deck.{subckt_instance, made_subckt, written_subckts}
use Rattle.sram_deck.specs.Sample.{sample_cell}

abbrev pub fixed_plan : Organization
fixed_plan = record { word_size = 2; write_size = 0; masks = 0; bank_bits = 0; col_bits = 1; groups = 2 ∷ 2 ∷ [] }

abbrev pub fixed_words : List ℕ
fixed_words = 2 ∷ 1 ∷ 3 ∷ 0 ∷ 1 ∷ 1 ∷ 0 ∷ 2 ∷ 3 ∷ 3 ∷ 2 ∷ 0 ∷ 0 ∷ 1 ∷ 2 ∷ 3 ∷ 1 ∷ 0 ∷ 3 ∷ 2 ∷ 2 ∷ 2 ∷ 1 ∷ 3 ∷ 0 ∷ 3 ∷ 1 ∷ 1 ∷ 3 ∷ 0 ∷ 0 ∷ 2 ∷ []

abbrev pub fixed_bits : BitCells
fixed_bits = Apart (λ r c. if fixed_bit fixed_plan fixed_words r c then codes "Rom119" else codes "x.Rom064")

abbrev pub fixed_row0 : Subckt
fixed_row0 = made_subckt (codes "m_row0") (codes "a" ∷ codes "b" ∷ codes "wlen" ∷ codes "bl0" ∷ codes "br0" ∷ codes "bl1" ∷ codes "br1" ∷ codes "bl2" ∷ codes "br2" ∷ codes "bl3" ∷ codes "br3" ∷ codes "vdd" ∷ codes "gnd" ∷ []) (
    subckt_instance (codes "xnand") (codes "a" ∷ codes "b" ∷ codes "zb" ∷ codes "vdd" ∷ codes "gnd" ∷ []) (codes "x.Rownand223") ∷
    subckt_instance (codes "xdrv") (codes "zb" ∷ codes "wlen" ∷ codes "wl" ∷ codes "vdd" ∷ codes "gnd" ∷ []) (codes "x.Driver53") ∷
    subckt_instance (codes "xb0") (codes "bl0" ∷ codes "br0" ∷ codes "wl" ∷ codes "vdd" ∷ codes "gnd" ∷ []) (codes "x.Rom064") ∷
    subckt_instance (codes "xb1") (codes "bl1" ∷ codes "br1" ∷ codes "wl" ∷ codes "vdd" ∷ codes "gnd" ∷ []) (codes "Rom119") ∷
    subckt_instance (codes "xb2") (codes "bl2" ∷ codes "br2" ∷ codes "wl" ∷ codes "vdd" ∷ codes "gnd" ∷ []) (codes "Rom119") ∷
    subckt_instance (codes "xb3") (codes "bl3" ∷ codes "br3" ∷ codes "wl" ∷ codes "vdd" ∷ codes "gnd" ∷ []) (codes "x.Rom064") ∷
    [])

abbrev pub fixed_row1 : Subckt
fixed_row1 = made_subckt (codes "m_row1") (codes "a" ∷ codes "b" ∷ codes "wlen" ∷ codes "bl0" ∷ codes "br0" ∷ codes "bl1" ∷ codes "br1" ∷ codes "bl2" ∷ codes "br2" ∷ codes "bl3" ∷ codes "br3" ∷ codes "vdd" ∷ codes "gnd" ∷ []) (
    subckt_instance (codes "xnand") (codes "a" ∷ codes "b" ∷ codes "zb" ∷ codes "vdd" ∷ codes "gnd" ∷ []) (codes "x.Rownand223") ∷
    subckt_instance (codes "xdrv") (codes "zb" ∷ codes "wlen" ∷ codes "wl" ∷ codes "vdd" ∷ codes "gnd" ∷ []) (codes "x.Driver53") ∷
    subckt_instance (codes "xb0") (codes "bl0" ∷ codes "br0" ∷ codes "wl" ∷ codes "vdd" ∷ codes "gnd" ∷ []) (codes "Rom119") ∷
    subckt_instance (codes "xb1") (codes "bl1" ∷ codes "br1" ∷ codes "wl" ∷ codes "vdd" ∷ codes "gnd" ∷ []) (codes "x.Rom064") ∷
    subckt_instance (codes "xb2") (codes "bl2" ∷ codes "br2" ∷ codes "wl" ∷ codes "vdd" ∷ codes "gnd" ∷ []) (codes "Rom119") ∷
    subckt_instance (codes "xb3") (codes "bl3" ∷ codes "br3" ∷ codes "wl" ∷ codes "vdd" ∷ codes "gnd" ∷ []) (codes "x.Rom064") ∷
    [])

abbrev pub fixed_row2 : Subckt
fixed_row2 = made_subckt (codes "m_row2") (codes "a" ∷ codes "b" ∷ codes "wlen" ∷ codes "bl0" ∷ codes "br0" ∷ codes "bl1" ∷ codes "br1" ∷ codes "bl2" ∷ codes "br2" ∷ codes "bl3" ∷ codes "br3" ∷ codes "vdd" ∷ codes "gnd" ∷ []) (
    subckt_instance (codes "xnand") (codes "a" ∷ codes "b" ∷ codes "zb" ∷ codes "vdd" ∷ codes "gnd" ∷ []) (codes "x.Rownand223") ∷
    subckt_instance (codes "xdrv") (codes "zb" ∷ codes "wlen" ∷ codes "wl" ∷ codes "vdd" ∷ codes "gnd" ∷ []) (codes "x.Driver53") ∷
    subckt_instance (codes "xb0") (codes "bl0" ∷ codes "br0" ∷ codes "wl" ∷ codes "vdd" ∷ codes "gnd" ∷ []) (codes "Rom119") ∷
    subckt_instance (codes "xb1") (codes "bl1" ∷ codes "br1" ∷ codes "wl" ∷ codes "vdd" ∷ codes "gnd" ∷ []) (codes "Rom119") ∷
    subckt_instance (codes "xb2") (codes "bl2" ∷ codes "br2" ∷ codes "wl" ∷ codes "vdd" ∷ codes "gnd" ∷ []) (codes "x.Rom064") ∷
    subckt_instance (codes "xb3") (codes "bl3" ∷ codes "br3" ∷ codes "wl" ∷ codes "vdd" ∷ codes "gnd" ∷ []) (codes "x.Rom064") ∷
    [])

abbrev pub fixed_row3 : Subckt
fixed_row3 = made_subckt (codes "m_row3") (codes "a" ∷ codes "b" ∷ codes "wlen" ∷ codes "bl0" ∷ codes "br0" ∷ codes "bl1" ∷ codes "br1" ∷ codes "bl2" ∷ codes "br2" ∷ codes "bl3" ∷ codes "br3" ∷ codes "vdd" ∷ codes "gnd" ∷ []) (
    subckt_instance (codes "xnand") (codes "a" ∷ codes "b" ∷ codes "zb" ∷ codes "vdd" ∷ codes "gnd" ∷ []) (codes "x.Rownand223") ∷
    subckt_instance (codes "xdrv") (codes "zb" ∷ codes "wlen" ∷ codes "wl" ∷ codes "vdd" ∷ codes "gnd" ∷ []) (codes "x.Driver53") ∷
    subckt_instance (codes "xb0") (codes "bl0" ∷ codes "br0" ∷ codes "wl" ∷ codes "vdd" ∷ codes "gnd" ∷ []) (codes "x.Rom064") ∷
    subckt_instance (codes "xb1") (codes "bl1" ∷ codes "br1" ∷ codes "wl" ∷ codes "vdd" ∷ codes "gnd" ∷ []) (codes "x.Rom064") ∷
    subckt_instance (codes "xb2") (codes "bl2" ∷ codes "br2" ∷ codes "wl" ∷ codes "vdd" ∷ codes "gnd" ∷ []) (codes "x.Rom064") ∷
    subckt_instance (codes "xb3") (codes "bl3" ∷ codes "br3" ∷ codes "wl" ∷ codes "vdd" ∷ codes "gnd" ∷ []) (codes "Rom119") ∷
    [])

abbrev pub fixed_row4 : Subckt
fixed_row4 = made_subckt (codes "m_row4") (codes "a" ∷ codes "b" ∷ codes "wlen" ∷ codes "bl0" ∷ codes "br0" ∷ codes "bl1" ∷ codes "br1" ∷ codes "bl2" ∷ codes "br2" ∷ codes "bl3" ∷ codes "br3" ∷ codes "vdd" ∷ codes "gnd" ∷ []) (
    subckt_instance (codes "xnand") (codes "a" ∷ codes "b" ∷ codes "zb" ∷ codes "vdd" ∷ codes "gnd" ∷ []) (codes "x.Rownand223") ∷
    subckt_instance (codes "xdrv") (codes "zb" ∷ codes "wlen" ∷ codes "wl" ∷ codes "vdd" ∷ codes "gnd" ∷ []) (codes "x.Driver53") ∷
    subckt_instance (codes "xb0") (codes "bl0" ∷ codes "br0" ∷ codes "wl" ∷ codes "vdd" ∷ codes "gnd" ∷ []) (codes "Rom119") ∷
    subckt_instance (codes "xb1") (codes "bl1" ∷ codes "br1" ∷ codes "wl" ∷ codes "vdd" ∷ codes "gnd" ∷ []) (codes "Rom119") ∷
    subckt_instance (codes "xb2") (codes "bl2" ∷ codes "br2" ∷ codes "wl" ∷ codes "vdd" ∷ codes "gnd" ∷ []) (codes "Rom119") ∷
    subckt_instance (codes "xb3") (codes "bl3" ∷ codes "br3" ∷ codes "wl" ∷ codes "vdd" ∷ codes "gnd" ∷ []) (codes "Rom119") ∷
    [])

abbrev pub fixed_row5 : Subckt
fixed_row5 = made_subckt (codes "m_row5") (codes "a" ∷ codes "b" ∷ codes "wlen" ∷ codes "bl0" ∷ codes "br0" ∷ codes "bl1" ∷ codes "br1" ∷ codes "bl2" ∷ codes "br2" ∷ codes "bl3" ∷ codes "br3" ∷ codes "vdd" ∷ codes "gnd" ∷ []) (
    subckt_instance (codes "xnand") (codes "a" ∷ codes "b" ∷ codes "zb" ∷ codes "vdd" ∷ codes "gnd" ∷ []) (codes "x.Rownand223") ∷
    subckt_instance (codes "xdrv") (codes "zb" ∷ codes "wlen" ∷ codes "wl" ∷ codes "vdd" ∷ codes "gnd" ∷ []) (codes "x.Driver53") ∷
    subckt_instance (codes "xb0") (codes "bl0" ∷ codes "br0" ∷ codes "wl" ∷ codes "vdd" ∷ codes "gnd" ∷ []) (codes "x.Rom064") ∷
    subckt_instance (codes "xb1") (codes "bl1" ∷ codes "br1" ∷ codes "wl" ∷ codes "vdd" ∷ codes "gnd" ∷ []) (codes "x.Rom064") ∷
    subckt_instance (codes "xb2") (codes "bl2" ∷ codes "br2" ∷ codes "wl" ∷ codes "vdd" ∷ codes "gnd" ∷ []) (codes "Rom119") ∷
    subckt_instance (codes "xb3") (codes "bl3" ∷ codes "br3" ∷ codes "wl" ∷ codes "vdd" ∷ codes "gnd" ∷ []) (codes "x.Rom064") ∷
    [])

abbrev pub fixed_row6 : Subckt
fixed_row6 = made_subckt (codes "m_row6") (codes "a" ∷ codes "b" ∷ codes "wlen" ∷ codes "bl0" ∷ codes "br0" ∷ codes "bl1" ∷ codes "br1" ∷ codes "bl2" ∷ codes "br2" ∷ codes "bl3" ∷ codes "br3" ∷ codes "vdd" ∷ codes "gnd" ∷ []) (
    subckt_instance (codes "xnand") (codes "a" ∷ codes "b" ∷ codes "zb" ∷ codes "vdd" ∷ codes "gnd" ∷ []) (codes "x.Rownand223") ∷
    subckt_instance (codes "xdrv") (codes "zb" ∷ codes "wlen" ∷ codes "wl" ∷ codes "vdd" ∷ codes "gnd" ∷ []) (codes "x.Driver53") ∷
    subckt_instance (codes "xb0") (codes "bl0" ∷ codes "br0" ∷ codes "wl" ∷ codes "vdd" ∷ codes "gnd" ∷ []) (codes "x.Rom064") ∷
    subckt_instance (codes "xb1") (codes "bl1" ∷ codes "br1" ∷ codes "wl" ∷ codes "vdd" ∷ codes "gnd" ∷ []) (codes "Rom119") ∷
    subckt_instance (codes "xb2") (codes "bl2" ∷ codes "br2" ∷ codes "wl" ∷ codes "vdd" ∷ codes "gnd" ∷ []) (codes "x.Rom064") ∷
    subckt_instance (codes "xb3") (codes "bl3" ∷ codes "br3" ∷ codes "wl" ∷ codes "vdd" ∷ codes "gnd" ∷ []) (codes "x.Rom064") ∷
    [])

abbrev pub fixed_row7 : Subckt
fixed_row7 = made_subckt (codes "m_row7") (codes "a" ∷ codes "b" ∷ codes "wlen" ∷ codes "bl0" ∷ codes "br0" ∷ codes "bl1" ∷ codes "br1" ∷ codes "bl2" ∷ codes "br2" ∷ codes "bl3" ∷ codes "br3" ∷ codes "vdd" ∷ codes "gnd" ∷ []) (
    subckt_instance (codes "xnand") (codes "a" ∷ codes "b" ∷ codes "zb" ∷ codes "vdd" ∷ codes "gnd" ∷ []) (codes "x.Rownand223") ∷
    subckt_instance (codes "xdrv") (codes "zb" ∷ codes "wlen" ∷ codes "wl" ∷ codes "vdd" ∷ codes "gnd" ∷ []) (codes "x.Driver53") ∷
    subckt_instance (codes "xb0") (codes "bl0" ∷ codes "br0" ∷ codes "wl" ∷ codes "vdd" ∷ codes "gnd" ∷ []) (codes "x.Rom064") ∷
    subckt_instance (codes "xb1") (codes "bl1" ∷ codes "br1" ∷ codes "wl" ∷ codes "vdd" ∷ codes "gnd" ∷ []) (codes "Rom119") ∷
    subckt_instance (codes "xb2") (codes "bl2" ∷ codes "br2" ∷ codes "wl" ∷ codes "vdd" ∷ codes "gnd" ∷ []) (codes "Rom119") ∷
    subckt_instance (codes "xb3") (codes "bl3" ∷ codes "br3" ∷ codes "wl" ∷ codes "vdd" ∷ codes "gnd" ∷ []) (codes "Rom119") ∷
    [])

abbrev pub fixed_row8 : Subckt
fixed_row8 = made_subckt (codes "m_row8") (codes "a" ∷ codes "b" ∷ codes "wlen" ∷ codes "bl0" ∷ codes "br0" ∷ codes "bl1" ∷ codes "br1" ∷ codes "bl2" ∷ codes "br2" ∷ codes "bl3" ∷ codes "br3" ∷ codes "vdd" ∷ codes "gnd" ∷ []) (
    subckt_instance (codes "xnand") (codes "a" ∷ codes "b" ∷ codes "zb" ∷ codes "vdd" ∷ codes "gnd" ∷ []) (codes "x.Rownand223") ∷
    subckt_instance (codes "xdrv") (codes "zb" ∷ codes "wlen" ∷ codes "wl" ∷ codes "vdd" ∷ codes "gnd" ∷ []) (codes "x.Driver53") ∷
    subckt_instance (codes "xb0") (codes "bl0" ∷ codes "br0" ∷ codes "wl" ∷ codes "vdd" ∷ codes "gnd" ∷ []) (codes "Rom119") ∷
    subckt_instance (codes "xb1") (codes "bl1" ∷ codes "br1" ∷ codes "wl" ∷ codes "vdd" ∷ codes "gnd" ∷ []) (codes "x.Rom064") ∷
    subckt_instance (codes "xb2") (codes "bl2" ∷ codes "br2" ∷ codes "wl" ∷ codes "vdd" ∷ codes "gnd" ∷ []) (codes "x.Rom064") ∷
    subckt_instance (codes "xb3") (codes "bl3" ∷ codes "br3" ∷ codes "wl" ∷ codes "vdd" ∷ codes "gnd" ∷ []) (codes "x.Rom064") ∷
    [])

abbrev pub fixed_row9 : Subckt
fixed_row9 = made_subckt (codes "m_row9") (codes "a" ∷ codes "b" ∷ codes "wlen" ∷ codes "bl0" ∷ codes "br0" ∷ codes "bl1" ∷ codes "br1" ∷ codes "bl2" ∷ codes "br2" ∷ codes "bl3" ∷ codes "br3" ∷ codes "vdd" ∷ codes "gnd" ∷ []) (
    subckt_instance (codes "xnand") (codes "a" ∷ codes "b" ∷ codes "zb" ∷ codes "vdd" ∷ codes "gnd" ∷ []) (codes "x.Rownand223") ∷
    subckt_instance (codes "xdrv") (codes "zb" ∷ codes "wlen" ∷ codes "wl" ∷ codes "vdd" ∷ codes "gnd" ∷ []) (codes "x.Driver53") ∷
    subckt_instance (codes "xb0") (codes "bl0" ∷ codes "br0" ∷ codes "wl" ∷ codes "vdd" ∷ codes "gnd" ∷ []) (codes "Rom119") ∷
    subckt_instance (codes "xb1") (codes "bl1" ∷ codes "br1" ∷ codes "wl" ∷ codes "vdd" ∷ codes "gnd" ∷ []) (codes "x.Rom064") ∷
    subckt_instance (codes "xb2") (codes "bl2" ∷ codes "br2" ∷ codes "wl" ∷ codes "vdd" ∷ codes "gnd" ∷ []) (codes "Rom119") ∷
    subckt_instance (codes "xb3") (codes "bl3" ∷ codes "br3" ∷ codes "wl" ∷ codes "vdd" ∷ codes "gnd" ∷ []) (codes "Rom119") ∷
    [])

abbrev pub fixed_row10 : Subckt
fixed_row10 = made_subckt (codes "m_row10") (codes "a" ∷ codes "b" ∷ codes "wlen" ∷ codes "bl0" ∷ codes "br0" ∷ codes "bl1" ∷ codes "br1" ∷ codes "bl2" ∷ codes "br2" ∷ codes "bl3" ∷ codes "br3" ∷ codes "vdd" ∷ codes "gnd" ∷ []) (
    subckt_instance (codes "xnand") (codes "a" ∷ codes "b" ∷ codes "zb" ∷ codes "vdd" ∷ codes "gnd" ∷ []) (codes "x.Rownand223") ∷
    subckt_instance (codes "xdrv") (codes "zb" ∷ codes "wlen" ∷ codes "wl" ∷ codes "vdd" ∷ codes "gnd" ∷ []) (codes "x.Driver53") ∷
    subckt_instance (codes "xb0") (codes "bl0" ∷ codes "br0" ∷ codes "wl" ∷ codes "vdd" ∷ codes "gnd" ∷ []) (codes "x.Rom064") ∷
    subckt_instance (codes "xb1") (codes "bl1" ∷ codes "br1" ∷ codes "wl" ∷ codes "vdd" ∷ codes "gnd" ∷ []) (codes "x.Rom064") ∷
    subckt_instance (codes "xb2") (codes "bl2" ∷ codes "br2" ∷ codes "wl" ∷ codes "vdd" ∷ codes "gnd" ∷ []) (codes "Rom119") ∷
    subckt_instance (codes "xb3") (codes "bl3" ∷ codes "br3" ∷ codes "wl" ∷ codes "vdd" ∷ codes "gnd" ∷ []) (codes "Rom119") ∷
    [])

abbrev pub fixed_row11 : Subckt
fixed_row11 = made_subckt (codes "m_row11") (codes "a" ∷ codes "b" ∷ codes "wlen" ∷ codes "bl0" ∷ codes "br0" ∷ codes "bl1" ∷ codes "br1" ∷ codes "bl2" ∷ codes "br2" ∷ codes "bl3" ∷ codes "br3" ∷ codes "vdd" ∷ codes "gnd" ∷ []) (
    subckt_instance (codes "xnand") (codes "a" ∷ codes "b" ∷ codes "zb" ∷ codes "vdd" ∷ codes "gnd" ∷ []) (codes "x.Rownand223") ∷
    subckt_instance (codes "xdrv") (codes "zb" ∷ codes "wlen" ∷ codes "wl" ∷ codes "vdd" ∷ codes "gnd" ∷ []) (codes "x.Driver53") ∷
    subckt_instance (codes "xb0") (codes "bl0" ∷ codes "br0" ∷ codes "wl" ∷ codes "vdd" ∷ codes "gnd" ∷ []) (codes "Rom119") ∷
    subckt_instance (codes "xb1") (codes "bl1" ∷ codes "br1" ∷ codes "wl" ∷ codes "vdd" ∷ codes "gnd" ∷ []) (codes "Rom119") ∷
    subckt_instance (codes "xb2") (codes "bl2" ∷ codes "br2" ∷ codes "wl" ∷ codes "vdd" ∷ codes "gnd" ∷ []) (codes "x.Rom064") ∷
    subckt_instance (codes "xb3") (codes "bl3" ∷ codes "br3" ∷ codes "wl" ∷ codes "vdd" ∷ codes "gnd" ∷ []) (codes "Rom119") ∷
    [])

abbrev pub fixed_row12 : Subckt
fixed_row12 = made_subckt (codes "m_row12") (codes "a" ∷ codes "b" ∷ codes "wlen" ∷ codes "bl0" ∷ codes "br0" ∷ codes "bl1" ∷ codes "br1" ∷ codes "bl2" ∷ codes "br2" ∷ codes "bl3" ∷ codes "br3" ∷ codes "vdd" ∷ codes "gnd" ∷ []) (
    subckt_instance (codes "xnand") (codes "a" ∷ codes "b" ∷ codes "zb" ∷ codes "vdd" ∷ codes "gnd" ∷ []) (codes "x.Rownand223") ∷
    subckt_instance (codes "xdrv") (codes "zb" ∷ codes "wlen" ∷ codes "wl" ∷ codes "vdd" ∷ codes "gnd" ∷ []) (codes "x.Driver53") ∷
    subckt_instance (codes "xb0") (codes "bl0" ∷ codes "br0" ∷ codes "wl" ∷ codes "vdd" ∷ codes "gnd" ∷ []) (codes "x.Rom064") ∷
    subckt_instance (codes "xb1") (codes "bl1" ∷ codes "br1" ∷ codes "wl" ∷ codes "vdd" ∷ codes "gnd" ∷ []) (codes "Rom119") ∷
    subckt_instance (codes "xb2") (codes "bl2" ∷ codes "br2" ∷ codes "wl" ∷ codes "vdd" ∷ codes "gnd" ∷ []) (codes "x.Rom064") ∷
    subckt_instance (codes "xb3") (codes "bl3" ∷ codes "br3" ∷ codes "wl" ∷ codes "vdd" ∷ codes "gnd" ∷ []) (codes "Rom119") ∷
    [])

abbrev pub fixed_row13 : Subckt
fixed_row13 = made_subckt (codes "m_row13") (codes "a" ∷ codes "b" ∷ codes "wlen" ∷ codes "bl0" ∷ codes "br0" ∷ codes "bl1" ∷ codes "br1" ∷ codes "bl2" ∷ codes "br2" ∷ codes "bl3" ∷ codes "br3" ∷ codes "vdd" ∷ codes "gnd" ∷ []) (
    subckt_instance (codes "xnand") (codes "a" ∷ codes "b" ∷ codes "zb" ∷ codes "vdd" ∷ codes "gnd" ∷ []) (codes "x.Rownand223") ∷
    subckt_instance (codes "xdrv") (codes "zb" ∷ codes "wlen" ∷ codes "wl" ∷ codes "vdd" ∷ codes "gnd" ∷ []) (codes "x.Driver53") ∷
    subckt_instance (codes "xb0") (codes "bl0" ∷ codes "br0" ∷ codes "wl" ∷ codes "vdd" ∷ codes "gnd" ∷ []) (codes "Rom119") ∷
    subckt_instance (codes "xb1") (codes "bl1" ∷ codes "br1" ∷ codes "wl" ∷ codes "vdd" ∷ codes "gnd" ∷ []) (codes "Rom119") ∷
    subckt_instance (codes "xb2") (codes "bl2" ∷ codes "br2" ∷ codes "wl" ∷ codes "vdd" ∷ codes "gnd" ∷ []) (codes "x.Rom064") ∷
    subckt_instance (codes "xb3") (codes "bl3" ∷ codes "br3" ∷ codes "wl" ∷ codes "vdd" ∷ codes "gnd" ∷ []) (codes "x.Rom064") ∷
    [])

abbrev pub fixed_row14 : Subckt
fixed_row14 = made_subckt (codes "m_row14") (codes "a" ∷ codes "b" ∷ codes "wlen" ∷ codes "bl0" ∷ codes "br0" ∷ codes "bl1" ∷ codes "br1" ∷ codes "bl2" ∷ codes "br2" ∷ codes "bl3" ∷ codes "br3" ∷ codes "vdd" ∷ codes "gnd" ∷ []) (
    subckt_instance (codes "xnand") (codes "a" ∷ codes "b" ∷ codes "zb" ∷ codes "vdd" ∷ codes "gnd" ∷ []) (codes "x.Rownand223") ∷
    subckt_instance (codes "xdrv") (codes "zb" ∷ codes "wlen" ∷ codes "wl" ∷ codes "vdd" ∷ codes "gnd" ∷ []) (codes "x.Driver53") ∷
    subckt_instance (codes "xb0") (codes "bl0" ∷ codes "br0" ∷ codes "wl" ∷ codes "vdd" ∷ codes "gnd" ∷ []) (codes "Rom119") ∷
    subckt_instance (codes "xb1") (codes "bl1" ∷ codes "br1" ∷ codes "wl" ∷ codes "vdd" ∷ codes "gnd" ∷ []) (codes "x.Rom064") ∷
    subckt_instance (codes "xb2") (codes "bl2" ∷ codes "br2" ∷ codes "wl" ∷ codes "vdd" ∷ codes "gnd" ∷ []) (codes "Rom119") ∷
    subckt_instance (codes "xb3") (codes "bl3" ∷ codes "br3" ∷ codes "wl" ∷ codes "vdd" ∷ codes "gnd" ∷ []) (codes "x.Rom064") ∷
    [])

abbrev pub fixed_row15 : Subckt
fixed_row15 = made_subckt (codes "m_row15") (codes "a" ∷ codes "b" ∷ codes "wlen" ∷ codes "bl0" ∷ codes "br0" ∷ codes "bl1" ∷ codes "br1" ∷ codes "bl2" ∷ codes "br2" ∷ codes "bl3" ∷ codes "br3" ∷ codes "vdd" ∷ codes "gnd" ∷ []) (
    subckt_instance (codes "xnand") (codes "a" ∷ codes "b" ∷ codes "zb" ∷ codes "vdd" ∷ codes "gnd" ∷ []) (codes "x.Rownand223") ∷
    subckt_instance (codes "xdrv") (codes "zb" ∷ codes "wlen" ∷ codes "wl" ∷ codes "vdd" ∷ codes "gnd" ∷ []) (codes "x.Driver53") ∷
    subckt_instance (codes "xb0") (codes "bl0" ∷ codes "br0" ∷ codes "wl" ∷ codes "vdd" ∷ codes "gnd" ∷ []) (codes "x.Rom064") ∷
    subckt_instance (codes "xb1") (codes "bl1" ∷ codes "br1" ∷ codes "wl" ∷ codes "vdd" ∷ codes "gnd" ∷ []) (codes "x.Rom064") ∷
    subckt_instance (codes "xb2") (codes "bl2" ∷ codes "br2" ∷ codes "wl" ∷ codes "vdd" ∷ codes "gnd" ∷ []) (codes "x.Rom064") ∷
    subckt_instance (codes "xb3") (codes "bl3" ∷ codes "br3" ∷ codes "wl" ∷ codes "vdd" ∷ codes "gnd" ∷ []) (codes "Rom119") ∷
    [])

abbrev pub fixed_array : Subckt
fixed_array = made_subckt (codes "m_array") (codes "p0_0" ∷ codes "p0_1" ∷ codes "p0_2" ∷ codes "p0_3" ∷ codes "p1_0" ∷ codes "p1_1" ∷ codes "p1_2" ∷ codes "p1_3" ∷ codes "wlen" ∷ codes "bl0" ∷ codes "br0" ∷ codes "bl1" ∷ codes "br1" ∷ codes "bl2" ∷ codes "br2" ∷ codes "bl3" ∷ codes "br3" ∷ codes "vdd" ∷ codes "gnd" ∷ []) (
    subckt_instance (codes "xr0") (codes "p0_0" ∷ codes "p1_0" ∷ codes "wlen" ∷ codes "bl0" ∷ codes "br0" ∷ codes "bl1" ∷ codes "br1" ∷ codes "bl2" ∷ codes "br2" ∷ codes "bl3" ∷ codes "br3" ∷ codes "vdd" ∷ codes "gnd" ∷ []) (codes "m_row0") ∷
    subckt_instance (codes "xr1") (codes "p0_1" ∷ codes "p1_0" ∷ codes "wlen" ∷ codes "bl0" ∷ codes "br0" ∷ codes "bl1" ∷ codes "br1" ∷ codes "bl2" ∷ codes "br2" ∷ codes "bl3" ∷ codes "br3" ∷ codes "vdd" ∷ codes "gnd" ∷ []) (codes "m_row1") ∷
    subckt_instance (codes "xr2") (codes "p0_2" ∷ codes "p1_0" ∷ codes "wlen" ∷ codes "bl0" ∷ codes "br0" ∷ codes "bl1" ∷ codes "br1" ∷ codes "bl2" ∷ codes "br2" ∷ codes "bl3" ∷ codes "br3" ∷ codes "vdd" ∷ codes "gnd" ∷ []) (codes "m_row2") ∷
    subckt_instance (codes "xr3") (codes "p0_3" ∷ codes "p1_0" ∷ codes "wlen" ∷ codes "bl0" ∷ codes "br0" ∷ codes "bl1" ∷ codes "br1" ∷ codes "bl2" ∷ codes "br2" ∷ codes "bl3" ∷ codes "br3" ∷ codes "vdd" ∷ codes "gnd" ∷ []) (codes "m_row3") ∷
    subckt_instance (codes "xr4") (codes "p0_0" ∷ codes "p1_1" ∷ codes "wlen" ∷ codes "bl0" ∷ codes "br0" ∷ codes "bl1" ∷ codes "br1" ∷ codes "bl2" ∷ codes "br2" ∷ codes "bl3" ∷ codes "br3" ∷ codes "vdd" ∷ codes "gnd" ∷ []) (codes "m_row4") ∷
    subckt_instance (codes "xr5") (codes "p0_1" ∷ codes "p1_1" ∷ codes "wlen" ∷ codes "bl0" ∷ codes "br0" ∷ codes "bl1" ∷ codes "br1" ∷ codes "bl2" ∷ codes "br2" ∷ codes "bl3" ∷ codes "br3" ∷ codes "vdd" ∷ codes "gnd" ∷ []) (codes "m_row5") ∷
    subckt_instance (codes "xr6") (codes "p0_2" ∷ codes "p1_1" ∷ codes "wlen" ∷ codes "bl0" ∷ codes "br0" ∷ codes "bl1" ∷ codes "br1" ∷ codes "bl2" ∷ codes "br2" ∷ codes "bl3" ∷ codes "br3" ∷ codes "vdd" ∷ codes "gnd" ∷ []) (codes "m_row6") ∷
    subckt_instance (codes "xr7") (codes "p0_3" ∷ codes "p1_1" ∷ codes "wlen" ∷ codes "bl0" ∷ codes "br0" ∷ codes "bl1" ∷ codes "br1" ∷ codes "bl2" ∷ codes "br2" ∷ codes "bl3" ∷ codes "br3" ∷ codes "vdd" ∷ codes "gnd" ∷ []) (codes "m_row7") ∷
    subckt_instance (codes "xr8") (codes "p0_0" ∷ codes "p1_2" ∷ codes "wlen" ∷ codes "bl0" ∷ codes "br0" ∷ codes "bl1" ∷ codes "br1" ∷ codes "bl2" ∷ codes "br2" ∷ codes "bl3" ∷ codes "br3" ∷ codes "vdd" ∷ codes "gnd" ∷ []) (codes "m_row8") ∷
    subckt_instance (codes "xr9") (codes "p0_1" ∷ codes "p1_2" ∷ codes "wlen" ∷ codes "bl0" ∷ codes "br0" ∷ codes "bl1" ∷ codes "br1" ∷ codes "bl2" ∷ codes "br2" ∷ codes "bl3" ∷ codes "br3" ∷ codes "vdd" ∷ codes "gnd" ∷ []) (codes "m_row9") ∷
    subckt_instance (codes "xr10") (codes "p0_2" ∷ codes "p1_2" ∷ codes "wlen" ∷ codes "bl0" ∷ codes "br0" ∷ codes "bl1" ∷ codes "br1" ∷ codes "bl2" ∷ codes "br2" ∷ codes "bl3" ∷ codes "br3" ∷ codes "vdd" ∷ codes "gnd" ∷ []) (codes "m_row10") ∷
    subckt_instance (codes "xr11") (codes "p0_3" ∷ codes "p1_2" ∷ codes "wlen" ∷ codes "bl0" ∷ codes "br0" ∷ codes "bl1" ∷ codes "br1" ∷ codes "bl2" ∷ codes "br2" ∷ codes "bl3" ∷ codes "br3" ∷ codes "vdd" ∷ codes "gnd" ∷ []) (codes "m_row11") ∷
    subckt_instance (codes "xr12") (codes "p0_0" ∷ codes "p1_3" ∷ codes "wlen" ∷ codes "bl0" ∷ codes "br0" ∷ codes "bl1" ∷ codes "br1" ∷ codes "bl2" ∷ codes "br2" ∷ codes "bl3" ∷ codes "br3" ∷ codes "vdd" ∷ codes "gnd" ∷ []) (codes "m_row12") ∷
    subckt_instance (codes "xr13") (codes "p0_1" ∷ codes "p1_3" ∷ codes "wlen" ∷ codes "bl0" ∷ codes "br0" ∷ codes "bl1" ∷ codes "br1" ∷ codes "bl2" ∷ codes "br2" ∷ codes "bl3" ∷ codes "br3" ∷ codes "vdd" ∷ codes "gnd" ∷ []) (codes "m_row13") ∷
    subckt_instance (codes "xr14") (codes "p0_2" ∷ codes "p1_3" ∷ codes "wlen" ∷ codes "bl0" ∷ codes "br0" ∷ codes "bl1" ∷ codes "br1" ∷ codes "bl2" ∷ codes "br2" ∷ codes "bl3" ∷ codes "br3" ∷ codes "vdd" ∷ codes "gnd" ∷ []) (codes "m_row14") ∷
    subckt_instance (codes "xr15") (codes "p0_3" ∷ codes "p1_3" ∷ codes "wlen" ∷ codes "bl0" ∷ codes "br0" ∷ codes "bl1" ∷ codes "br1" ∷ codes "bl2" ∷ codes "br2" ∷ codes "bl3" ∷ codes "br3" ∷ codes "vdd" ∷ codes "gnd" ∷ []) (codes "m_row15") ∷
    [])

abbrev pub fixed_pre : Subckt
fixed_pre = made_subckt (codes "m_pre") (codes "bl0" ∷ codes "br0" ∷ codes "bl1" ∷ codes "br1" ∷ codes "bl2" ∷ codes "br2" ∷ codes "bl3" ∷ codes "br3" ∷ codes "clkb" ∷ codes "vdd" ∷ codes "gnd" ∷ []) (
    subckt_instance (codes "xp0") (codes "bl0" ∷ codes "br0" ∷ codes "clkb" ∷ codes "vdd" ∷ codes "gnd" ∷ []) (codes "Precharge27") ∷
    subckt_instance (codes "xp1") (codes "bl1" ∷ codes "br1" ∷ codes "clkb" ∷ codes "vdd" ∷ codes "gnd" ∷ []) (codes "Precharge27") ∷
    subckt_instance (codes "xp2") (codes "bl2" ∷ codes "br2" ∷ codes "clkb" ∷ codes "vdd" ∷ codes "gnd" ∷ []) (codes "Precharge27") ∷
    subckt_instance (codes "xp3") (codes "bl3" ∷ codes "br3" ∷ codes "clkb" ∷ codes "vdd" ∷ codes "gnd" ∷ []) (codes "Precharge27") ∷
    [])

abbrev pub fixed_data : Subckt
fixed_data = made_subckt (codes "m_data") (codes "bl0" ∷ codes "br0" ∷ codes "bl1" ∷ codes "br1" ∷ codes "bl2" ∷ codes "br2" ∷ codes "bl3" ∷ codes "br3" ∷ codes "sel0" ∷ codes "sel1" ∷ codes "sen" ∷ codes "o0" ∷ codes "o1" ∷ codes "vdd" ∷ codes "gnd" ∷ []) (
    subckt_instance (codes "xs0") (codes "lo0" ∷ codes "ro0" ∷ codes "o0" ∷ codes "sen" ∷ codes "vdd" ∷ codes "gnd" ∷ []) (codes "Sense93") ∷
    subckt_instance (codes "xs1") (codes "lo1" ∷ codes "ro1" ∷ codes "o1" ∷ codes "sen" ∷ codes "vdd" ∷ codes "gnd" ∷ []) (codes "Sense93") ∷
    subckt_instance (codes "xm0") (codes "bl0" ∷ codes "br0" ∷ codes "lo0" ∷ codes "ro0" ∷ codes "sel0" ∷ codes "vdd" ∷ codes "gnd" ∷ []) (codes "x.Mux78") ∷
    subckt_instance (codes "xm1") (codes "bl1" ∷ codes "br1" ∷ codes "lo0" ∷ codes "ro0" ∷ codes "sel1" ∷ codes "vdd" ∷ codes "gnd" ∷ []) (codes "x.Mux78") ∷
    subckt_instance (codes "xm2") (codes "bl2" ∷ codes "br2" ∷ codes "lo1" ∷ codes "ro1" ∷ codes "sel0" ∷ codes "vdd" ∷ codes "gnd" ∷ []) (codes "x.Mux78") ∷
    subckt_instance (codes "xm3") (codes "bl3" ∷ codes "br3" ∷ codes "lo1" ∷ codes "ro1" ∷ codes "sel1" ∷ codes "vdd" ∷ codes "gnd" ∷ []) (codes "x.Mux78") ∷
    [])

abbrev pub fixed_bank : Subckt
fixed_bank = made_subckt (codes "m_bank") (codes "p0_0" ∷ codes "p0_1" ∷ codes "p0_2" ∷ codes "p0_3" ∷ codes "p1_0" ∷ codes "p1_1" ∷ codes "p1_2" ∷ codes "p1_3" ∷ codes "wlen" ∷ codes "sen" ∷ codes "clkb" ∷ codes "sel0" ∷ codes "sel1" ∷ codes "o0" ∷ codes "o1" ∷ codes "vdd" ∷ codes "gnd" ∷ []) (
    subckt_instance (codes "xarray") (codes "p0_0" ∷ codes "p0_1" ∷ codes "p0_2" ∷ codes "p0_3" ∷ codes "p1_0" ∷ codes "p1_1" ∷ codes "p1_2" ∷ codes "p1_3" ∷ codes "wlen" ∷ codes "bl0" ∷ codes "br0" ∷ codes "bl1" ∷ codes "br1" ∷ codes "bl2" ∷ codes "br2" ∷ codes "bl3" ∷ codes "br3" ∷ codes "vdd" ∷ codes "gnd" ∷ []) (codes "m_array") ∷
    subckt_instance (codes "xpre") (codes "bl0" ∷ codes "br0" ∷ codes "bl1" ∷ codes "br1" ∷ codes "bl2" ∷ codes "br2" ∷ codes "bl3" ∷ codes "br3" ∷ codes "clkb" ∷ codes "vdd" ∷ codes "gnd" ∷ []) (codes "m_pre") ∷
    subckt_instance (codes "xdata") (codes "bl0" ∷ codes "br0" ∷ codes "bl1" ∷ codes "br1" ∷ codes "bl2" ∷ codes "br2" ∷ codes "bl3" ∷ codes "br3" ∷ codes "sel0" ∷ codes "sel1" ∷ codes "sen" ∷ codes "o0" ∷ codes "o1" ∷ codes "vdd" ∷ codes "gnd" ∷ []) (codes "m_data") ∷
    [])

abbrev pub fixed_logic : Subckt
fixed_logic = made_subckt (codes "m_logic") (codes "clk0" ∷ codes "csb0" ∷ codes "addr0[0]" ∷ codes "addr0[1]" ∷ codes "addr0[2]" ∷ codes "addr0[3]" ∷ codes "addr0[4]" ∷ codes "clkb" ∷ codes "wlen" ∷ codes "sen" ∷ codes "sel0" ∷ codes "sel1" ∷ codes "p0_0" ∷ codes "p0_1" ∷ codes "p0_2" ∷ codes "p0_3" ∷ codes "p1_0" ∷ codes "p1_1" ∷ codes "p1_2" ∷ codes "p1_3" ∷ codes "vdd" ∷ codes "gnd" ∷ []) (
    subckt_instance (codes "xclki") (codes "clk0" ∷ codes "clkb" ∷ codes "vdd" ∷ codes "gnd" ∷ []) (codes "Inv26") ∷
    subckt_instance (codes "xcsd") (codes "csb0" ∷ codes "clk0" ∷ codes "csq" ∷ codes "vdd" ∷ codes "gnd" ∷ []) (codes "Dff42") ∷
    subckt_instance (codes "xcsi") (codes "csq" ∷ codes "cs" ∷ codes "vdd" ∷ codes "gnd" ∷ []) (codes "Inv26") ∷
    subckt_instance (codes "xwln") (codes "cs" ∷ codes "clkb" ∷ codes "wlb" ∷ codes "vdd" ∷ codes "gnd" ∷ []) (codes "x.Nand277") ∷
    subckt_instance (codes "xwli") (codes "wlb" ∷ codes "wlen" ∷ codes "vdd" ∷ codes "gnd" ∷ []) (codes "Inv26") ∷
    subckt_instance (codes "xdly") (codes "clkb" ∷ codes "dly" ∷ codes "vdd" ∷ codes "gnd" ∷ []) (codes "My_Delay55") ∷
    subckt_instance (codes "xsen") (codes "wlen" ∷ codes "dly" ∷ codes "seb" ∷ codes "vdd" ∷ codes "gnd" ∷ []) (codes "x.Nand277") ∷
    subckt_instance (codes "xsei") (codes "seb" ∷ codes "sen" ∷ codes "vdd" ∷ codes "gnd" ∷ []) (codes "Inv26") ∷
    subckt_instance (codes "xad0") (codes "addr0[0]" ∷ codes "clk0" ∷ codes "a0" ∷ codes "vdd" ∷ codes "gnd" ∷ []) (codes "Dff42") ∷
    subckt_instance (codes "xai0") (codes "a0" ∷ codes "n0" ∷ codes "vdd" ∷ codes "gnd" ∷ []) (codes "Inv26") ∷
    subckt_instance (codes "xad1") (codes "addr0[1]" ∷ codes "clk0" ∷ codes "a1" ∷ codes "vdd" ∷ codes "gnd" ∷ []) (codes "Dff42") ∷
    subckt_instance (codes "xai1") (codes "a1" ∷ codes "n1" ∷ codes "vdd" ∷ codes "gnd" ∷ []) (codes "Inv26") ∷
    subckt_instance (codes "xad2") (codes "addr0[2]" ∷ codes "clk0" ∷ codes "a2" ∷ codes "vdd" ∷ codes "gnd" ∷ []) (codes "Dff42") ∷
    subckt_instance (codes "xai2") (codes "a2" ∷ codes "n2" ∷ codes "vdd" ∷ codes "gnd" ∷ []) (codes "Inv26") ∷
    subckt_instance (codes "xad3") (codes "addr0[3]" ∷ codes "clk0" ∷ codes "a3" ∷ codes "vdd" ∷ codes "gnd" ∷ []) (codes "Dff42") ∷
    subckt_instance (codes "xai3") (codes "a3" ∷ codes "n3" ∷ codes "vdd" ∷ codes "gnd" ∷ []) (codes "Inv26") ∷
    subckt_instance (codes "xad4") (codes "addr0[4]" ∷ codes "clk0" ∷ codes "a4" ∷ codes "vdd" ∷ codes "gnd" ∷ []) (codes "Dff42") ∷
    subckt_instance (codes "xai4") (codes "a4" ∷ codes "n4" ∷ codes "vdd" ∷ codes "gnd" ∷ []) (codes "Inv26") ∷
    subckt_instance (codes "xsn0") (codes "n0" ∷ codes "sb0" ∷ codes "vdd" ∷ codes "gnd" ∷ []) (codes "Inv26") ∷
    subckt_instance (codes "xsi0") (codes "sb0" ∷ codes "sel0" ∷ codes "vdd" ∷ codes "gnd" ∷ []) (codes "Inv26") ∷
    subckt_instance (codes "xsn1") (codes "a0" ∷ codes "sb1" ∷ codes "vdd" ∷ codes "gnd" ∷ []) (codes "Inv26") ∷
    subckt_instance (codes "xsi1") (codes "sb1" ∷ codes "sel1" ∷ codes "vdd" ∷ codes "gnd" ∷ []) (codes "Inv26") ∷
    subckt_instance (codes "xpn0_0") (codes "n1" ∷ codes "n2" ∷ codes "pb0_0" ∷ codes "vdd" ∷ codes "gnd" ∷ []) (codes "x.Nand277") ∷
    subckt_instance (codes "xpi0_0") (codes "pb0_0" ∷ codes "p0_0" ∷ codes "vdd" ∷ codes "gnd" ∷ []) (codes "Inv26") ∷
    subckt_instance (codes "xpn0_1") (codes "a1" ∷ codes "n2" ∷ codes "pb0_1" ∷ codes "vdd" ∷ codes "gnd" ∷ []) (codes "x.Nand277") ∷
    subckt_instance (codes "xpi0_1") (codes "pb0_1" ∷ codes "p0_1" ∷ codes "vdd" ∷ codes "gnd" ∷ []) (codes "Inv26") ∷
    subckt_instance (codes "xpn0_2") (codes "n1" ∷ codes "a2" ∷ codes "pb0_2" ∷ codes "vdd" ∷ codes "gnd" ∷ []) (codes "x.Nand277") ∷
    subckt_instance (codes "xpi0_2") (codes "pb0_2" ∷ codes "p0_2" ∷ codes "vdd" ∷ codes "gnd" ∷ []) (codes "Inv26") ∷
    subckt_instance (codes "xpn0_3") (codes "a1" ∷ codes "a2" ∷ codes "pb0_3" ∷ codes "vdd" ∷ codes "gnd" ∷ []) (codes "x.Nand277") ∷
    subckt_instance (codes "xpi0_3") (codes "pb0_3" ∷ codes "p0_3" ∷ codes "vdd" ∷ codes "gnd" ∷ []) (codes "Inv26") ∷
    subckt_instance (codes "xpn1_0") (codes "n3" ∷ codes "n4" ∷ codes "pb1_0" ∷ codes "vdd" ∷ codes "gnd" ∷ []) (codes "x.Nand277") ∷
    subckt_instance (codes "xpi1_0") (codes "pb1_0" ∷ codes "p1_0" ∷ codes "vdd" ∷ codes "gnd" ∷ []) (codes "Inv26") ∷
    subckt_instance (codes "xpn1_1") (codes "a3" ∷ codes "n4" ∷ codes "pb1_1" ∷ codes "vdd" ∷ codes "gnd" ∷ []) (codes "x.Nand277") ∷
    subckt_instance (codes "xpi1_1") (codes "pb1_1" ∷ codes "p1_1" ∷ codes "vdd" ∷ codes "gnd" ∷ []) (codes "Inv26") ∷
    subckt_instance (codes "xpn1_2") (codes "n3" ∷ codes "a4" ∷ codes "pb1_2" ∷ codes "vdd" ∷ codes "gnd" ∷ []) (codes "x.Nand277") ∷
    subckt_instance (codes "xpi1_2") (codes "pb1_2" ∷ codes "p1_2" ∷ codes "vdd" ∷ codes "gnd" ∷ []) (codes "Inv26") ∷
    subckt_instance (codes "xpn1_3") (codes "a3" ∷ codes "a4" ∷ codes "pb1_3" ∷ codes "vdd" ∷ codes "gnd" ∷ []) (codes "x.Nand277") ∷
    subckt_instance (codes "xpi1_3") (codes "pb1_3" ∷ codes "p1_3" ∷ codes "vdd" ∷ codes "gnd" ∷ []) (codes "Inv26") ∷
    [])

abbrev pub fixed_top : Subckt
fixed_top = made_subckt (codes "m") (codes "clk0" ∷ codes "csb0" ∷ codes "addr0[0]" ∷ codes "addr0[1]" ∷ codes "addr0[2]" ∷ codes "addr0[3]" ∷ codes "addr0[4]" ∷ codes "dout0[0]" ∷ codes "dout0[1]" ∷ codes "vdd" ∷ codes "gnd" ∷ []) (
    subckt_instance (codes "xlogic") (codes "clk0" ∷ codes "csb0" ∷ codes "addr0[0]" ∷ codes "addr0[1]" ∷ codes "addr0[2]" ∷ codes "addr0[3]" ∷ codes "addr0[4]" ∷ codes "clkb" ∷ codes "wlen" ∷ codes "sen" ∷ codes "sel0" ∷ codes "sel1" ∷ codes "p0_0" ∷ codes "p0_1" ∷ codes "p0_2" ∷ codes "p0_3" ∷ codes "p1_0" ∷ codes "p1_1" ∷ codes "p1_2" ∷ codes "p1_3" ∷ codes "vdd" ∷ codes "gnd" ∷ []) (codes "m_logic") ∷
    subckt_instance (codes "xbank") (codes "p0_0" ∷ codes "p0_1" ∷ codes "p0_2" ∷ codes "p0_3" ∷ codes "p1_0" ∷ codes "p1_1" ∷ codes "p1_2" ∷ codes "p1_3" ∷ codes "wlen" ∷ codes "sen" ∷ codes "clkb" ∷ codes "sel0" ∷ codes "sel1" ∷ codes "dout0[0]" ∷ codes "dout0[1]" ∷ codes "vdd" ∷ codes "gnd" ∷ []) (codes "m_bank") ∷
    [])

-- the subcircuits of that memory are these
abbrev pub FixedSampleAgrees : Type 0
FixedSampleAgrees = written_subckts fixed_plan sample_cell fixed_bits (codes "m") ≡ fixed_row0 ∷ fixed_row1 ∷ fixed_row2 ∷ fixed_row3 ∷ fixed_row4 ∷ fixed_row5 ∷ fixed_row6 ∷ fixed_row7 ∷ fixed_row8 ∷ fixed_row9 ∷ fixed_row10 ∷ fixed_row11 ∷ fixed_row12 ∷ fixed_row13 ∷ fixed_row14 ∷ fixed_row15 ∷ fixed_array ∷ fixed_pre ∷ fixed_data ∷ fixed_bank ∷ fixed_logic ∷ fixed_top ∷ []
