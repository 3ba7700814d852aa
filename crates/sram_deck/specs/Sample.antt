-- The written subcircuits of one memory, spelled out: 64 words of 4 bits with two masks, in two banks of 16 rows of two words.
-- Written by an independent program; a kit's cells have its own names.
use Rattle.std.specs.Prelude.{◌≡◌, ℕ, List, [], ◌∷◌, codes}
use Rattle.netlist.specs.declared.deck.Subckt.{Subckt}
use Rattle.cell_roles.specs.declared.role.Role.{Role}
use Rattle.cell_roles.specs.declared.role.Role.TheVariants.{Bitcell, Precharge, Mux, Tie, Sense, Write, RowNand2, RowNand3, Driver, Nand2, Nand3, Inv, Dff, Delay}
use Rattle.sram_netlist.specs.Organization.{Organization}
use Rattle.sram_netlist.specs.BitCells.{Alike}
use Rattle.sram_deck.specs.Deck.{subckt_instance, made_subckt, written_subckts}

abbrev pub sample_plan : Organization
sample_plan = record { word_size = 4; write_size = 2; masks = 2; bank_bits = 1; col_bits = 1; groups = 2 ∷ 2 ∷ [] }

abbrev pub sample_cell : Role → List ℕ
sample_cell Bitcell = codes "Bitcell58"
sample_cell Precharge = codes "Precharge27"
sample_cell Mux = codes "x.Mux78"
sample_cell Tie = codes "x.Tie31"
sample_cell Sense = codes "Sense93"
sample_cell Write = codes "Write87"
sample_cell RowNand2 = codes "x.Rownand223"
sample_cell RowNand3 = codes "Rownand329"
sample_cell Driver = codes "x.Driver53"
sample_cell Nand2 = codes "x.Nand277"
sample_cell Nand3 = codes "My_Nand376"
sample_cell Inv = codes "Inv26"
sample_cell Dff = codes "Dff42"
sample_cell Delay = codes "My_Delay55"

abbrev pub sample_row : Subckt
sample_row = made_subckt (codes "m_row") (codes "a" ∷ codes "b" ∷ codes "wlen" ∷ codes "bl0" ∷ codes "br0" ∷ codes "bl1" ∷ codes "br1" ∷ codes "bl2" ∷ codes "br2" ∷ codes "bl3" ∷ codes "br3" ∷ codes "bl4" ∷ codes "br4" ∷ codes "bl5" ∷ codes "br5" ∷ codes "bl6" ∷ codes "br6" ∷ codes "bl7" ∷ codes "br7" ∷ codes "vdd" ∷ codes "gnd" ∷ []) (
    subckt_instance (codes "xnand") (codes "a" ∷ codes "b" ∷ codes "zb" ∷ codes "vdd" ∷ codes "gnd" ∷ []) (codes "x.Rownand223") ∷
    subckt_instance (codes "xdrv") (codes "zb" ∷ codes "wlen" ∷ codes "wl" ∷ codes "vdd" ∷ codes "gnd" ∷ []) (codes "x.Driver53") ∷
    subckt_instance (codes "xb0") (codes "bl0" ∷ codes "br0" ∷ codes "wl" ∷ codes "vdd" ∷ codes "gnd" ∷ []) (codes "Bitcell58") ∷
    subckt_instance (codes "xb1") (codes "bl1" ∷ codes "br1" ∷ codes "wl" ∷ codes "vdd" ∷ codes "gnd" ∷ []) (codes "Bitcell58") ∷
    subckt_instance (codes "xb2") (codes "bl2" ∷ codes "br2" ∷ codes "wl" ∷ codes "vdd" ∷ codes "gnd" ∷ []) (codes "Bitcell58") ∷
    subckt_instance (codes "xb3") (codes "bl3" ∷ codes "br3" ∷ codes "wl" ∷ codes "vdd" ∷ codes "gnd" ∷ []) (codes "Bitcell58") ∷
    subckt_instance (codes "xb4") (codes "bl4" ∷ codes "br4" ∷ codes "wl" ∷ codes "vdd" ∷ codes "gnd" ∷ []) (codes "Bitcell58") ∷
    subckt_instance (codes "xb5") (codes "bl5" ∷ codes "br5" ∷ codes "wl" ∷ codes "vdd" ∷ codes "gnd" ∷ []) (codes "Bitcell58") ∷
    subckt_instance (codes "xb6") (codes "bl6" ∷ codes "br6" ∷ codes "wl" ∷ codes "vdd" ∷ codes "gnd" ∷ []) (codes "Bitcell58") ∷
    subckt_instance (codes "xb7") (codes "bl7" ∷ codes "br7" ∷ codes "wl" ∷ codes "vdd" ∷ codes "gnd" ∷ []) (codes "Bitcell58") ∷
    [])

abbrev pub sample_array : Subckt
sample_array = made_subckt (codes "m_array") (codes "p0_0" ∷ codes "p0_1" ∷ codes "p0_2" ∷ codes "p0_3" ∷ codes "p1_0" ∷ codes "p1_1" ∷ codes "p1_2" ∷ codes "p1_3" ∷ codes "wlen" ∷ codes "bl0" ∷ codes "br0" ∷ codes "bl1" ∷ codes "br1" ∷ codes "bl2" ∷ codes "br2" ∷ codes "bl3" ∷ codes "br3" ∷ codes "bl4" ∷ codes "br4" ∷ codes "bl5" ∷ codes "br5" ∷ codes "bl6" ∷ codes "br6" ∷ codes "bl7" ∷ codes "br7" ∷ codes "vdd" ∷ codes "gnd" ∷ []) (
    subckt_instance (codes "xr0") (codes "p0_0" ∷ codes "p1_0" ∷ codes "wlen" ∷ codes "bl0" ∷ codes "br0" ∷ codes "bl1" ∷ codes "br1" ∷ codes "bl2" ∷ codes "br2" ∷ codes "bl3" ∷ codes "br3" ∷ codes "bl4" ∷ codes "br4" ∷ codes "bl5" ∷ codes "br5" ∷ codes "bl6" ∷ codes "br6" ∷ codes "bl7" ∷ codes "br7" ∷ codes "vdd" ∷ codes "gnd" ∷ []) (codes "m_row") ∷
    subckt_instance (codes "xr1") (codes "p0_1" ∷ codes "p1_0" ∷ codes "wlen" ∷ codes "bl0" ∷ codes "br0" ∷ codes "bl1" ∷ codes "br1" ∷ codes "bl2" ∷ codes "br2" ∷ codes "bl3" ∷ codes "br3" ∷ codes "bl4" ∷ codes "br4" ∷ codes "bl5" ∷ codes "br5" ∷ codes "bl6" ∷ codes "br6" ∷ codes "bl7" ∷ codes "br7" ∷ codes "vdd" ∷ codes "gnd" ∷ []) (codes "m_row") ∷
    subckt_instance (codes "xr2") (codes "p0_2" ∷ codes "p1_0" ∷ codes "wlen" ∷ codes "bl0" ∷ codes "br0" ∷ codes "bl1" ∷ codes "br1" ∷ codes "bl2" ∷ codes "br2" ∷ codes "bl3" ∷ codes "br3" ∷ codes "bl4" ∷ codes "br4" ∷ codes "bl5" ∷ codes "br5" ∷ codes "bl6" ∷ codes "br6" ∷ codes "bl7" ∷ codes "br7" ∷ codes "vdd" ∷ codes "gnd" ∷ []) (codes "m_row") ∷
    subckt_instance (codes "xr3") (codes "p0_3" ∷ codes "p1_0" ∷ codes "wlen" ∷ codes "bl0" ∷ codes "br0" ∷ codes "bl1" ∷ codes "br1" ∷ codes "bl2" ∷ codes "br2" ∷ codes "bl3" ∷ codes "br3" ∷ codes "bl4" ∷ codes "br4" ∷ codes "bl5" ∷ codes "br5" ∷ codes "bl6" ∷ codes "br6" ∷ codes "bl7" ∷ codes "br7" ∷ codes "vdd" ∷ codes "gnd" ∷ []) (codes "m_row") ∷
    subckt_instance (codes "xr4") (codes "p0_0" ∷ codes "p1_1" ∷ codes "wlen" ∷ codes "bl0" ∷ codes "br0" ∷ codes "bl1" ∷ codes "br1" ∷ codes "bl2" ∷ codes "br2" ∷ codes "bl3" ∷ codes "br3" ∷ codes "bl4" ∷ codes "br4" ∷ codes "bl5" ∷ codes "br5" ∷ codes "bl6" ∷ codes "br6" ∷ codes "bl7" ∷ codes "br7" ∷ codes "vdd" ∷ codes "gnd" ∷ []) (codes "m_row") ∷
    subckt_instance (codes "xr5") (codes "p0_1" ∷ codes "p1_1" ∷ codes "wlen" ∷ codes "bl0" ∷ codes "br0" ∷ codes "bl1" ∷ codes "br1" ∷ codes "bl2" ∷ codes "br2" ∷ codes "bl3" ∷ codes "br3" ∷ codes "bl4" ∷ codes "br4" ∷ codes "bl5" ∷ codes "br5" ∷ codes "bl6" ∷ codes "br6" ∷ codes "bl7" ∷ codes "br7" ∷ codes "vdd" ∷ codes "gnd" ∷ []) (codes "m_row") ∷
    subckt_instance (codes "xr6") (codes "p0_2" ∷ codes "p1_1" ∷ codes "wlen" ∷ codes "bl0" ∷ codes "br0" ∷ codes "bl1" ∷ codes "br1" ∷ codes "bl2" ∷ codes "br2" ∷ codes "bl3" ∷ codes "br3" ∷ codes "bl4" ∷ codes "br4" ∷ codes "bl5" ∷ codes "br5" ∷ codes "bl6" ∷ codes "br6" ∷ codes "bl7" ∷ codes "br7" ∷ codes "vdd" ∷ codes "gnd" ∷ []) (codes "m_row") ∷
    subckt_instance (codes "xr7") (codes "p0_3" ∷ codes "p1_1" ∷ codes "wlen" ∷ codes "bl0" ∷ codes "br0" ∷ codes "bl1" ∷ codes "br1" ∷ codes "bl2" ∷ codes "br2" ∷ codes "bl3" ∷ codes "br3" ∷ codes "bl4" ∷ codes "br4" ∷ codes "bl5" ∷ codes "br5" ∷ codes "bl6" ∷ codes "br6" ∷ codes "bl7" ∷ codes "br7" ∷ codes "vdd" ∷ codes "gnd" ∷ []) (codes "m_row") ∷
    subckt_instance (codes "xr8") (codes "p0_0" ∷ codes "p1_2" ∷ codes "wlen" ∷ codes "bl0" ∷ codes "br0" ∷ codes "bl1" ∷ codes "br1" ∷ codes "bl2" ∷ codes "br2" ∷ codes "bl3" ∷ codes "br3" ∷ codes "bl4" ∷ codes "br4" ∷ codes "bl5" ∷ codes "br5" ∷ codes "bl6" ∷ codes "br6" ∷ codes "bl7" ∷ codes "br7" ∷ codes "vdd" ∷ codes "gnd" ∷ []) (codes "m_row") ∷
    subckt_instance (codes "xr9") (codes "p0_1" ∷ codes "p1_2" ∷ codes "wlen" ∷ codes "bl0" ∷ codes "br0" ∷ codes "bl1" ∷ codes "br1" ∷ codes "bl2" ∷ codes "br2" ∷ codes "bl3" ∷ codes "br3" ∷ codes "bl4" ∷ codes "br4" ∷ codes "bl5" ∷ codes "br5" ∷ codes "bl6" ∷ codes "br6" ∷ codes "bl7" ∷ codes "br7" ∷ codes "vdd" ∷ codes "gnd" ∷ []) (codes "m_row") ∷
    subckt_instance (codes "xr10") (codes "p0_2" ∷ codes "p1_2" ∷ codes "wlen" ∷ codes "bl0" ∷ codes "br0" ∷ codes "bl1" ∷ codes "br1" ∷ codes "bl2" ∷ codes "br2" ∷ codes "bl3" ∷ codes "br3" ∷ codes "bl4" ∷ codes "br4" ∷ codes "bl5" ∷ codes "br5" ∷ codes "bl6" ∷ codes "br6" ∷ codes "bl7" ∷ codes "br7" ∷ codes "vdd" ∷ codes "gnd" ∷ []) (codes "m_row") ∷
    subckt_instance (codes "xr11") (codes "p0_3" ∷ codes "p1_2" ∷ codes "wlen" ∷ codes "bl0" ∷ codes "br0" ∷ codes "bl1" ∷ codes "br1" ∷ codes "bl2" ∷ codes "br2" ∷ codes "bl3" ∷ codes "br3" ∷ codes "bl4" ∷ codes "br4" ∷ codes "bl5" ∷ codes "br5" ∷ codes "bl6" ∷ codes "br6" ∷ codes "bl7" ∷ codes "br7" ∷ codes "vdd" ∷ codes "gnd" ∷ []) (codes "m_row") ∷
    subckt_instance (codes "xr12") (codes "p0_0" ∷ codes "p1_3" ∷ codes "wlen" ∷ codes "bl0" ∷ codes "br0" ∷ codes "bl1" ∷ codes "br1" ∷ codes "bl2" ∷ codes "br2" ∷ codes "bl3" ∷ codes "br3" ∷ codes "bl4" ∷ codes "br4" ∷ codes "bl5" ∷ codes "br5" ∷ codes "bl6" ∷ codes "br6" ∷ codes "bl7" ∷ codes "br7" ∷ codes "vdd" ∷ codes "gnd" ∷ []) (codes "m_row") ∷
    subckt_instance (codes "xr13") (codes "p0_1" ∷ codes "p1_3" ∷ codes "wlen" ∷ codes "bl0" ∷ codes "br0" ∷ codes "bl1" ∷ codes "br1" ∷ codes "bl2" ∷ codes "br2" ∷ codes "bl3" ∷ codes "br3" ∷ codes "bl4" ∷ codes "br4" ∷ codes "bl5" ∷ codes "br5" ∷ codes "bl6" ∷ codes "br6" ∷ codes "bl7" ∷ codes "br7" ∷ codes "vdd" ∷ codes "gnd" ∷ []) (codes "m_row") ∷
    subckt_instance (codes "xr14") (codes "p0_2" ∷ codes "p1_3" ∷ codes "wlen" ∷ codes "bl0" ∷ codes "br0" ∷ codes "bl1" ∷ codes "br1" ∷ codes "bl2" ∷ codes "br2" ∷ codes "bl3" ∷ codes "br3" ∷ codes "bl4" ∷ codes "br4" ∷ codes "bl5" ∷ codes "br5" ∷ codes "bl6" ∷ codes "br6" ∷ codes "bl7" ∷ codes "br7" ∷ codes "vdd" ∷ codes "gnd" ∷ []) (codes "m_row") ∷
    subckt_instance (codes "xr15") (codes "p0_3" ∷ codes "p1_3" ∷ codes "wlen" ∷ codes "bl0" ∷ codes "br0" ∷ codes "bl1" ∷ codes "br1" ∷ codes "bl2" ∷ codes "br2" ∷ codes "bl3" ∷ codes "br3" ∷ codes "bl4" ∷ codes "br4" ∷ codes "bl5" ∷ codes "br5" ∷ codes "bl6" ∷ codes "br6" ∷ codes "bl7" ∷ codes "br7" ∷ codes "vdd" ∷ codes "gnd" ∷ []) (codes "m_row") ∷
    [])

abbrev pub sample_pre : Subckt
sample_pre = made_subckt (codes "m_pre") (codes "bl0" ∷ codes "br0" ∷ codes "bl1" ∷ codes "br1" ∷ codes "bl2" ∷ codes "br2" ∷ codes "bl3" ∷ codes "br3" ∷ codes "bl4" ∷ codes "br4" ∷ codes "bl5" ∷ codes "br5" ∷ codes "bl6" ∷ codes "br6" ∷ codes "bl7" ∷ codes "br7" ∷ codes "clkb" ∷ codes "vdd" ∷ codes "gnd" ∷ []) (
    subckt_instance (codes "xp0") (codes "bl0" ∷ codes "br0" ∷ codes "clkb" ∷ codes "vdd" ∷ codes "gnd" ∷ []) (codes "Precharge27") ∷
    subckt_instance (codes "xp1") (codes "bl1" ∷ codes "br1" ∷ codes "clkb" ∷ codes "vdd" ∷ codes "gnd" ∷ []) (codes "Precharge27") ∷
    subckt_instance (codes "xp2") (codes "bl2" ∷ codes "br2" ∷ codes "clkb" ∷ codes "vdd" ∷ codes "gnd" ∷ []) (codes "Precharge27") ∷
    subckt_instance (codes "xp3") (codes "bl3" ∷ codes "br3" ∷ codes "clkb" ∷ codes "vdd" ∷ codes "gnd" ∷ []) (codes "Precharge27") ∷
    subckt_instance (codes "xp4") (codes "bl4" ∷ codes "br4" ∷ codes "clkb" ∷ codes "vdd" ∷ codes "gnd" ∷ []) (codes "Precharge27") ∷
    subckt_instance (codes "xp5") (codes "bl5" ∷ codes "br5" ∷ codes "clkb" ∷ codes "vdd" ∷ codes "gnd" ∷ []) (codes "Precharge27") ∷
    subckt_instance (codes "xp6") (codes "bl6" ∷ codes "br6" ∷ codes "clkb" ∷ codes "vdd" ∷ codes "gnd" ∷ []) (codes "Precharge27") ∷
    subckt_instance (codes "xp7") (codes "bl7" ∷ codes "br7" ∷ codes "clkb" ∷ codes "vdd" ∷ codes "gnd" ∷ []) (codes "Precharge27") ∷
    [])

abbrev pub sample_data : Subckt
sample_data = made_subckt (codes "m_data") (codes "bl0" ∷ codes "br0" ∷ codes "bl1" ∷ codes "br1" ∷ codes "bl2" ∷ codes "br2" ∷ codes "bl3" ∷ codes "br3" ∷ codes "bl4" ∷ codes "br4" ∷ codes "bl5" ∷ codes "br5" ∷ codes "bl6" ∷ codes "br6" ∷ codes "bl7" ∷ codes "br7" ∷ codes "sel0" ∷ codes "sel1" ∷ codes "d0" ∷ codes "d1" ∷ codes "d2" ∷ codes "d3" ∷ codes "en0" ∷ codes "en1" ∷ codes "sen" ∷ codes "o0" ∷ codes "o1" ∷ codes "o2" ∷ codes "o3" ∷ codes "vdd" ∷ codes "gnd" ∷ []) (
    subckt_instance (codes "xw0") (codes "d0" ∷ codes "lo0" ∷ codes "ro0" ∷ codes "en0" ∷ codes "vdd" ∷ codes "gnd" ∷ []) (codes "Write87") ∷
    subckt_instance (codes "xw1") (codes "d1" ∷ codes "lo1" ∷ codes "ro1" ∷ codes "en0" ∷ codes "vdd" ∷ codes "gnd" ∷ []) (codes "Write87") ∷
    subckt_instance (codes "xw2") (codes "d2" ∷ codes "lo2" ∷ codes "ro2" ∷ codes "en1" ∷ codes "vdd" ∷ codes "gnd" ∷ []) (codes "Write87") ∷
    subckt_instance (codes "xw3") (codes "d3" ∷ codes "lo3" ∷ codes "ro3" ∷ codes "en1" ∷ codes "vdd" ∷ codes "gnd" ∷ []) (codes "Write87") ∷
    subckt_instance (codes "xs0") (codes "lo0" ∷ codes "ro0" ∷ codes "o0" ∷ codes "sen" ∷ codes "vdd" ∷ codes "gnd" ∷ []) (codes "Sense93") ∷
    subckt_instance (codes "xs1") (codes "lo1" ∷ codes "ro1" ∷ codes "o1" ∷ codes "sen" ∷ codes "vdd" ∷ codes "gnd" ∷ []) (codes "Sense93") ∷
    subckt_instance (codes "xs2") (codes "lo2" ∷ codes "ro2" ∷ codes "o2" ∷ codes "sen" ∷ codes "vdd" ∷ codes "gnd" ∷ []) (codes "Sense93") ∷
    subckt_instance (codes "xs3") (codes "lo3" ∷ codes "ro3" ∷ codes "o3" ∷ codes "sen" ∷ codes "vdd" ∷ codes "gnd" ∷ []) (codes "Sense93") ∷
    subckt_instance (codes "xm0") (codes "bl0" ∷ codes "br0" ∷ codes "lo0" ∷ codes "ro0" ∷ codes "sel0" ∷ codes "vdd" ∷ codes "gnd" ∷ []) (codes "x.Mux78") ∷
    subckt_instance (codes "xm1") (codes "bl1" ∷ codes "br1" ∷ codes "lo0" ∷ codes "ro0" ∷ codes "sel1" ∷ codes "vdd" ∷ codes "gnd" ∷ []) (codes "x.Mux78") ∷
    subckt_instance (codes "xm2") (codes "bl2" ∷ codes "br2" ∷ codes "lo1" ∷ codes "ro1" ∷ codes "sel0" ∷ codes "vdd" ∷ codes "gnd" ∷ []) (codes "x.Mux78") ∷
    subckt_instance (codes "xm3") (codes "bl3" ∷ codes "br3" ∷ codes "lo1" ∷ codes "ro1" ∷ codes "sel1" ∷ codes "vdd" ∷ codes "gnd" ∷ []) (codes "x.Mux78") ∷
    subckt_instance (codes "xm4") (codes "bl4" ∷ codes "br4" ∷ codes "lo2" ∷ codes "ro2" ∷ codes "sel0" ∷ codes "vdd" ∷ codes "gnd" ∷ []) (codes "x.Mux78") ∷
    subckt_instance (codes "xm5") (codes "bl5" ∷ codes "br5" ∷ codes "lo2" ∷ codes "ro2" ∷ codes "sel1" ∷ codes "vdd" ∷ codes "gnd" ∷ []) (codes "x.Mux78") ∷
    subckt_instance (codes "xm6") (codes "bl6" ∷ codes "br6" ∷ codes "lo3" ∷ codes "ro3" ∷ codes "sel0" ∷ codes "vdd" ∷ codes "gnd" ∷ []) (codes "x.Mux78") ∷
    subckt_instance (codes "xm7") (codes "bl7" ∷ codes "br7" ∷ codes "lo3" ∷ codes "ro3" ∷ codes "sel1" ∷ codes "vdd" ∷ codes "gnd" ∷ []) (codes "x.Mux78") ∷
    [])

abbrev pub sample_bank : Subckt
sample_bank = made_subckt (codes "m_bank") (codes "p0_0" ∷ codes "p0_1" ∷ codes "p0_2" ∷ codes "p0_3" ∷ codes "p1_0" ∷ codes "p1_1" ∷ codes "p1_2" ∷ codes "p1_3" ∷ codes "wlen" ∷ codes "sen" ∷ codes "clkb" ∷ codes "sel0" ∷ codes "sel1" ∷ codes "d0" ∷ codes "d1" ∷ codes "d2" ∷ codes "d3" ∷ codes "en0" ∷ codes "en1" ∷ codes "o0" ∷ codes "o1" ∷ codes "o2" ∷ codes "o3" ∷ codes "vdd" ∷ codes "gnd" ∷ []) (
    subckt_instance (codes "xarray") (codes "p0_0" ∷ codes "p0_1" ∷ codes "p0_2" ∷ codes "p0_3" ∷ codes "p1_0" ∷ codes "p1_1" ∷ codes "p1_2" ∷ codes "p1_3" ∷ codes "wlen" ∷ codes "bl0" ∷ codes "br0" ∷ codes "bl1" ∷ codes "br1" ∷ codes "bl2" ∷ codes "br2" ∷ codes "bl3" ∷ codes "br3" ∷ codes "bl4" ∷ codes "br4" ∷ codes "bl5" ∷ codes "br5" ∷ codes "bl6" ∷ codes "br6" ∷ codes "bl7" ∷ codes "br7" ∷ codes "vdd" ∷ codes "gnd" ∷ []) (codes "m_array") ∷
    subckt_instance (codes "xpre") (codes "bl0" ∷ codes "br0" ∷ codes "bl1" ∷ codes "br1" ∷ codes "bl2" ∷ codes "br2" ∷ codes "bl3" ∷ codes "br3" ∷ codes "bl4" ∷ codes "br4" ∷ codes "bl5" ∷ codes "br5" ∷ codes "bl6" ∷ codes "br6" ∷ codes "bl7" ∷ codes "br7" ∷ codes "clkb" ∷ codes "vdd" ∷ codes "gnd" ∷ []) (codes "m_pre") ∷
    subckt_instance (codes "xdata") (codes "bl0" ∷ codes "br0" ∷ codes "bl1" ∷ codes "br1" ∷ codes "bl2" ∷ codes "br2" ∷ codes "bl3" ∷ codes "br3" ∷ codes "bl4" ∷ codes "br4" ∷ codes "bl5" ∷ codes "br5" ∷ codes "bl6" ∷ codes "br6" ∷ codes "bl7" ∷ codes "br7" ∷ codes "sel0" ∷ codes "sel1" ∷ codes "d0" ∷ codes "d1" ∷ codes "d2" ∷ codes "d3" ∷ codes "en0" ∷ codes "en1" ∷ codes "sen" ∷ codes "o0" ∷ codes "o1" ∷ codes "o2" ∷ codes "o3" ∷ codes "vdd" ∷ codes "gnd" ∷ []) (codes "m_data") ∷
    [])

abbrev pub sample_logic : Subckt
sample_logic = made_subckt (codes "m_logic") (codes "clk0" ∷ codes "csb0" ∷ codes "web0" ∷ codes "wmask0[0]" ∷ codes "wmask0[1]" ∷ codes "addr0[0]" ∷ codes "addr0[1]" ∷ codes "addr0[2]" ∷ codes "addr0[3]" ∷ codes "addr0[4]" ∷ codes "addr0[5]" ∷ codes "din0[0]" ∷ codes "din0[1]" ∷ codes "din0[2]" ∷ codes "din0[3]" ∷ codes "clkb" ∷ codes "wlen0" ∷ codes "we0_0" ∷ codes "we0_1" ∷ codes "sen0" ∷ codes "wlen1" ∷ codes "we1_0" ∷ codes "we1_1" ∷ codes "sen1" ∷ codes "sel0" ∷ codes "sel1" ∷ codes "p0_0" ∷ codes "p0_1" ∷ codes "p0_2" ∷ codes "p0_3" ∷ codes "p1_0" ∷ codes "p1_1" ∷ codes "p1_2" ∷ codes "p1_3" ∷ codes "d0" ∷ codes "d1" ∷ codes "d2" ∷ codes "d3" ∷ codes "vdd" ∷ codes "gnd" ∷ []) (
    subckt_instance (codes "xclki") (codes "clk0" ∷ codes "clkb" ∷ codes "vdd" ∷ codes "gnd" ∷ []) (codes "Inv26") ∷
    subckt_instance (codes "xcsd") (codes "csb0" ∷ codes "clk0" ∷ codes "csq" ∷ codes "vdd" ∷ codes "gnd" ∷ []) (codes "Dff42") ∷
    subckt_instance (codes "xwed") (codes "web0" ∷ codes "clk0" ∷ codes "weq" ∷ codes "vdd" ∷ codes "gnd" ∷ []) (codes "Dff42") ∷
    subckt_instance (codes "xcsi") (codes "csq" ∷ codes "cs" ∷ codes "vdd" ∷ codes "gnd" ∷ []) (codes "Inv26") ∷
    subckt_instance (codes "xwei") (codes "weq" ∷ codes "we" ∷ codes "vdd" ∷ codes "gnd" ∷ []) (codes "Inv26") ∷
    subckt_instance (codes "xwln") (codes "cs" ∷ codes "clkb" ∷ codes "wlb" ∷ codes "vdd" ∷ codes "gnd" ∷ []) (codes "x.Nand277") ∷
    subckt_instance (codes "xwli") (codes "wlb" ∷ codes "wlen" ∷ codes "vdd" ∷ codes "gnd" ∷ []) (codes "Inv26") ∷
    subckt_instance (codes "xwrn") (codes "cs" ∷ codes "we" ∷ codes "clkb" ∷ codes "wrb" ∷ codes "vdd" ∷ codes "gnd" ∷ []) (codes "My_Nand376") ∷
    subckt_instance (codes "xwri") (codes "wrb" ∷ codes "wen" ∷ codes "vdd" ∷ codes "gnd" ∷ []) (codes "Inv26") ∷
    subckt_instance (codes "xrdn") (codes "cs" ∷ codes "weq" ∷ codes "clkb" ∷ codes "rdb" ∷ codes "vdd" ∷ codes "gnd" ∷ []) (codes "My_Nand376") ∷
    subckt_instance (codes "xrdi") (codes "rdb" ∷ codes "rd" ∷ codes "vdd" ∷ codes "gnd" ∷ []) (codes "Inv26") ∷
    subckt_instance (codes "xdly") (codes "clkb" ∷ codes "dly" ∷ codes "vdd" ∷ codes "gnd" ∷ []) (codes "My_Delay55") ∷
    subckt_instance (codes "xsen") (codes "rd" ∷ codes "dly" ∷ codes "seb" ∷ codes "vdd" ∷ codes "gnd" ∷ []) (codes "x.Nand277") ∷
    subckt_instance (codes "xsei") (codes "seb" ∷ codes "sen" ∷ codes "vdd" ∷ codes "gnd" ∷ []) (codes "Inv26") ∷
    subckt_instance (codes "xad0") (codes "addr0[0]" ∷ codes "clk0" ∷ codes "a0" ∷ codes "vdd" ∷ codes "gnd" ∷ []) (codes "Dff42") ∷
    subckt_instance (codes "xai0") (codes "a0" ∷ codes "n0" ∷ codes "vdd" ∷ codes "gnd" ∷ []) (codes "Inv26") ∷
    subckt_instance (codes "xad1") (codes "addr0[1]" ∷ codes "clk0" ∷ codes "a1" ∷ codes "vdd" ∷ codes "gnd" ∷ []) (codes "Dff42") ∷
    subckt_instance (codes "xai1") (codes "a1" ∷ codes "n1" ∷ codes "vdd" ∷ codes "gnd" ∷ []) (codes "Inv26") ∷
    subckt_instance (codes "xad2") (codes "addr0[2]" ∷ codes "clk0" ∷ codes "a2" ∷ codes "vdd" ∷ codes "gnd" ∷ []) (codes "Dff42") ∷
    subckt_instance (codes "xai2") (codes "a2" ∷ codes "n2" ∷ codes "vdd" ∷ codes "gnd" ∷ []) (codes "Inv26") ∷
    subckt_instance (codes "xad3") (codes "addr0[3]" ∷ codes "clk0" ∷ codes "a3" ∷ codes "vdd" ∷ codes "gnd" ∷ []) (codes "Dff42") ∷
    subckt_instance (codes "xai3") (codes "a3" ∷ codes "n3" ∷ codes "vdd" ∷ codes "gnd" ∷ []) (codes "Inv26") ∷
    subckt_instance (codes "xad4") (codes "addr0[4]" ∷ codes "clk0" ∷ codes "a4" ∷ codes "vdd" ∷ codes "gnd" ∷ []) (codes "Dff42") ∷
    subckt_instance (codes "xai4") (codes "a4" ∷ codes "n4" ∷ codes "vdd" ∷ codes "gnd" ∷ []) (codes "Inv26") ∷
    subckt_instance (codes "xad5") (codes "addr0[5]" ∷ codes "clk0" ∷ codes "a5" ∷ codes "vdd" ∷ codes "gnd" ∷ []) (codes "Dff42") ∷
    subckt_instance (codes "xai5") (codes "a5" ∷ codes "n5" ∷ codes "vdd" ∷ codes "gnd" ∷ []) (codes "Inv26") ∷
    subckt_instance (codes "xsn0") (codes "n0" ∷ codes "sb0" ∷ codes "vdd" ∷ codes "gnd" ∷ []) (codes "Inv26") ∷
    subckt_instance (codes "xsi0") (codes "sb0" ∷ codes "sel0" ∷ codes "vdd" ∷ codes "gnd" ∷ []) (codes "Inv26") ∷
    subckt_instance (codes "xsn1") (codes "a0" ∷ codes "sb1" ∷ codes "vdd" ∷ codes "gnd" ∷ []) (codes "Inv26") ∷
    subckt_instance (codes "xsi1") (codes "sb1" ∷ codes "sel1" ∷ codes "vdd" ∷ codes "gnd" ∷ []) (codes "Inv26") ∷
    subckt_instance (codes "xpn0_0") (codes "n1" ∷ codes "n2" ∷ codes "pb0_0" ∷ codes "vdd" ∷ codes "gnd" ∷ []) (codes "x.Nand277") ∷
    subckt_instance (codes "xpi0_0") (codes "pb0_0" ∷ codes "p0_0" ∷ codes "vdd" ∷ codes "gnd" ∷ []) (codes "Inv26") ∷
    subckt_instance (codes "xpn0_1") (codes "a1" ∷ codes "n2" ∷ codes "pb0_1" ∷ codes "vdd" ∷ codes "gnd" ∷ []) (codes "x.Nand277") ∷
    subckt_instance (codes "xpi0_1") (codes "pb0_1" ∷ codes "p0_1" ∷ codes "vdd" ∷ codes "gnd" ∷ []) (codes "Inv26") ∷
    subckt_instance (codes "xpn0_2") (codes "n1" ∷ codes "a2" ∷ codes "pb0_2" ∷ codes "vdd" ∷ codes "gnd" ∷ []) (codes "x.Nand277") ∷
    subckt_instance (codes "xpi0_2") (codes "pb0_2" ∷ codes "p0_2" ∷ codes "vdd" ∷ codes "gnd" ∷ []) (codes "Inv26") ∷
    subckt_instance (codes "xpn0_3") (codes "a1" ∷ codes "a2" ∷ codes "pb0_3" ∷ codes "vdd" ∷ codes "gnd" ∷ []) (codes "x.Nand277") ∷
    subckt_instance (codes "xpi0_3") (codes "pb0_3" ∷ codes "p0_3" ∷ codes "vdd" ∷ codes "gnd" ∷ []) (codes "Inv26") ∷
    subckt_instance (codes "xpn1_0") (codes "n3" ∷ codes "n4" ∷ codes "pb1_0" ∷ codes "vdd" ∷ codes "gnd" ∷ []) (codes "x.Nand277") ∷
    subckt_instance (codes "xpi1_0") (codes "pb1_0" ∷ codes "p1_0" ∷ codes "vdd" ∷ codes "gnd" ∷ []) (codes "Inv26") ∷
    subckt_instance (codes "xpn1_1") (codes "a3" ∷ codes "n4" ∷ codes "pb1_1" ∷ codes "vdd" ∷ codes "gnd" ∷ []) (codes "x.Nand277") ∷
    subckt_instance (codes "xpi1_1") (codes "pb1_1" ∷ codes "p1_1" ∷ codes "vdd" ∷ codes "gnd" ∷ []) (codes "Inv26") ∷
    subckt_instance (codes "xpn1_2") (codes "n3" ∷ codes "a4" ∷ codes "pb1_2" ∷ codes "vdd" ∷ codes "gnd" ∷ []) (codes "x.Nand277") ∷
    subckt_instance (codes "xpi1_2") (codes "pb1_2" ∷ codes "p1_2" ∷ codes "vdd" ∷ codes "gnd" ∷ []) (codes "Inv26") ∷
    subckt_instance (codes "xpn1_3") (codes "a3" ∷ codes "a4" ∷ codes "pb1_3" ∷ codes "vdd" ∷ codes "gnd" ∷ []) (codes "x.Nand277") ∷
    subckt_instance (codes "xpi1_3") (codes "pb1_3" ∷ codes "p1_3" ∷ codes "vdd" ∷ codes "gnd" ∷ []) (codes "Inv26") ∷
    subckt_instance (codes "xdd0") (codes "din0[0]" ∷ codes "clk0" ∷ codes "d0" ∷ codes "vdd" ∷ codes "gnd" ∷ []) (codes "Dff42") ∷
    subckt_instance (codes "xdd1") (codes "din0[1]" ∷ codes "clk0" ∷ codes "d1" ∷ codes "vdd" ∷ codes "gnd" ∷ []) (codes "Dff42") ∷
    subckt_instance (codes "xdd2") (codes "din0[2]" ∷ codes "clk0" ∷ codes "d2" ∷ codes "vdd" ∷ codes "gnd" ∷ []) (codes "Dff42") ∷
    subckt_instance (codes "xdd3") (codes "din0[3]" ∷ codes "clk0" ∷ codes "d3" ∷ codes "vdd" ∷ codes "gnd" ∷ []) (codes "Dff42") ∷
    subckt_instance (codes "xdm0") (codes "wmask0[0]" ∷ codes "clk0" ∷ codes "m0" ∷ codes "vdd" ∷ codes "gnd" ∷ []) (codes "Dff42") ∷
    subckt_instance (codes "xdm1") (codes "wmask0[1]" ∷ codes "clk0" ∷ codes "m1" ∷ codes "vdd" ∷ codes "gnd" ∷ []) (codes "Dff42") ∷
    subckt_instance (codes "xbn0") (codes "n5" ∷ codes "eb0" ∷ codes "vdd" ∷ codes "gnd" ∷ []) (codes "Inv26") ∷
    subckt_instance (codes "xbi0") (codes "eb0" ∷ codes "e0" ∷ codes "vdd" ∷ codes "gnd" ∷ []) (codes "Inv26") ∷
    subckt_instance (codes "xbn1") (codes "a5" ∷ codes "eb1" ∷ codes "vdd" ∷ codes "gnd" ∷ []) (codes "Inv26") ∷
    subckt_instance (codes "xbi1") (codes "eb1" ∷ codes "e1" ∷ codes "vdd" ∷ codes "gnd" ∷ []) (codes "Inv26") ∷
    subckt_instance (codes "xln0") (codes "wlen" ∷ codes "e0" ∷ codes "lb0" ∷ codes "vdd" ∷ codes "gnd" ∷ []) (codes "x.Nand277") ∷
    subckt_instance (codes "xli0") (codes "lb0" ∷ codes "wlen0" ∷ codes "vdd" ∷ codes "gnd" ∷ []) (codes "Inv26") ∷
    subckt_instance (codes "xkn0") (codes "sen" ∷ codes "e0" ∷ codes "kb0" ∷ codes "vdd" ∷ codes "gnd" ∷ []) (codes "x.Nand277") ∷
    subckt_instance (codes "xki0") (codes "kb0" ∷ codes "sen0" ∷ codes "vdd" ∷ codes "gnd" ∷ []) (codes "Inv26") ∷
    subckt_instance (codes "xln1") (codes "wlen" ∷ codes "e1" ∷ codes "lb1" ∷ codes "vdd" ∷ codes "gnd" ∷ []) (codes "x.Nand277") ∷
    subckt_instance (codes "xli1") (codes "lb1" ∷ codes "wlen1" ∷ codes "vdd" ∷ codes "gnd" ∷ []) (codes "Inv26") ∷
    subckt_instance (codes "xkn1") (codes "sen" ∷ codes "e1" ∷ codes "kb1" ∷ codes "vdd" ∷ codes "gnd" ∷ []) (codes "x.Nand277") ∷
    subckt_instance (codes "xki1") (codes "kb1" ∷ codes "sen1" ∷ codes "vdd" ∷ codes "gnd" ∷ []) (codes "Inv26") ∷
    subckt_instance (codes "xgn0_0") (codes "wen" ∷ codes "e0" ∷ codes "m0" ∷ codes "wx0_0" ∷ codes "vdd" ∷ codes "gnd" ∷ []) (codes "My_Nand376") ∷
    subckt_instance (codes "xgi0_0") (codes "wx0_0" ∷ codes "we0_0" ∷ codes "vdd" ∷ codes "gnd" ∷ []) (codes "Inv26") ∷
    subckt_instance (codes "xgn0_1") (codes "wen" ∷ codes "e0" ∷ codes "m1" ∷ codes "wx0_1" ∷ codes "vdd" ∷ codes "gnd" ∷ []) (codes "My_Nand376") ∷
    subckt_instance (codes "xgi0_1") (codes "wx0_1" ∷ codes "we0_1" ∷ codes "vdd" ∷ codes "gnd" ∷ []) (codes "Inv26") ∷
    subckt_instance (codes "xgn1_0") (codes "wen" ∷ codes "e1" ∷ codes "m0" ∷ codes "wx1_0" ∷ codes "vdd" ∷ codes "gnd" ∷ []) (codes "My_Nand376") ∷
    subckt_instance (codes "xgi1_0") (codes "wx1_0" ∷ codes "we1_0" ∷ codes "vdd" ∷ codes "gnd" ∷ []) (codes "Inv26") ∷
    subckt_instance (codes "xgn1_1") (codes "wen" ∷ codes "e1" ∷ codes "m1" ∷ codes "wx1_1" ∷ codes "vdd" ∷ codes "gnd" ∷ []) (codes "My_Nand376") ∷
    subckt_instance (codes "xgi1_1") (codes "wx1_1" ∷ codes "we1_1" ∷ codes "vdd" ∷ codes "gnd" ∷ []) (codes "Inv26") ∷
    [])

abbrev pub sample_top : Subckt
sample_top = made_subckt (codes "m") (codes "clk0" ∷ codes "csb0" ∷ codes "web0" ∷ codes "wmask0[0]" ∷ codes "wmask0[1]" ∷ codes "addr0[0]" ∷ codes "addr0[1]" ∷ codes "addr0[2]" ∷ codes "addr0[3]" ∷ codes "addr0[4]" ∷ codes "addr0[5]" ∷ codes "din0[0]" ∷ codes "din0[1]" ∷ codes "din0[2]" ∷ codes "din0[3]" ∷ codes "dout0[0]" ∷ codes "dout0[1]" ∷ codes "dout0[2]" ∷ codes "dout0[3]" ∷ codes "vdd" ∷ codes "gnd" ∷ []) (
    subckt_instance (codes "xlogic") (codes "clk0" ∷ codes "csb0" ∷ codes "web0" ∷ codes "wmask0[0]" ∷ codes "wmask0[1]" ∷ codes "addr0[0]" ∷ codes "addr0[1]" ∷ codes "addr0[2]" ∷ codes "addr0[3]" ∷ codes "addr0[4]" ∷ codes "addr0[5]" ∷ codes "din0[0]" ∷ codes "din0[1]" ∷ codes "din0[2]" ∷ codes "din0[3]" ∷ codes "clkb" ∷ codes "wlen0" ∷ codes "we0_0" ∷ codes "we0_1" ∷ codes "sen0" ∷ codes "wlen1" ∷ codes "we1_0" ∷ codes "we1_1" ∷ codes "sen1" ∷ codes "sel0" ∷ codes "sel1" ∷ codes "p0_0" ∷ codes "p0_1" ∷ codes "p0_2" ∷ codes "p0_3" ∷ codes "p1_0" ∷ codes "p1_1" ∷ codes "p1_2" ∷ codes "p1_3" ∷ codes "d0" ∷ codes "d1" ∷ codes "d2" ∷ codes "d3" ∷ codes "vdd" ∷ codes "gnd" ∷ []) (codes "m_logic") ∷
    subckt_instance (codes "xbank0") (codes "p0_0" ∷ codes "p0_1" ∷ codes "p0_2" ∷ codes "p0_3" ∷ codes "p1_0" ∷ codes "p1_1" ∷ codes "p1_2" ∷ codes "p1_3" ∷ codes "wlen0" ∷ codes "sen0" ∷ codes "clkb" ∷ codes "sel0" ∷ codes "sel1" ∷ codes "d0" ∷ codes "d1" ∷ codes "d2" ∷ codes "d3" ∷ codes "we0_0" ∷ codes "we0_1" ∷ codes "dout0[0]" ∷ codes "dout0[1]" ∷ codes "dout0[2]" ∷ codes "dout0[3]" ∷ codes "vdd" ∷ codes "gnd" ∷ []) (codes "m_bank") ∷
    subckt_instance (codes "xbank1") (codes "p0_0" ∷ codes "p0_1" ∷ codes "p0_2" ∷ codes "p0_3" ∷ codes "p1_0" ∷ codes "p1_1" ∷ codes "p1_2" ∷ codes "p1_3" ∷ codes "wlen1" ∷ codes "sen1" ∷ codes "clkb" ∷ codes "sel0" ∷ codes "sel1" ∷ codes "d0" ∷ codes "d1" ∷ codes "d2" ∷ codes "d3" ∷ codes "we1_0" ∷ codes "we1_1" ∷ codes "dout0[0]" ∷ codes "dout0[1]" ∷ codes "dout0[2]" ∷ codes "dout0[3]" ∷ codes "vdd" ∷ codes "gnd" ∷ []) (codes "m_bank") ∷
    [])

-- the subcircuits of that memory are these
abbrev pub SampleAgrees : Type 0
SampleAgrees = written_subckts sample_plan sample_cell (Alike (sample_cell Bitcell)) (codes "m") ≡ sample_row ∷ sample_array ∷ sample_pre ∷ sample_data ∷ sample_bank ∷ sample_logic ∷ sample_top ∷ []
